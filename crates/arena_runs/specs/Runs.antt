-- What is true of a run of calls over an arena.
use Rattle.std.specs.Prelude.{◌≡◌, false, ℕ, ◌<◌, ◌≤◌, Some, IsTrue, List, map, sum, take, length, slice_get}
use Rattle.std.specs.FinMap as finite
use Rattle.std.specs.List.{list_any}
use Rattle.arena_rules.specs.State.{State, IsValid}
use Rattle.arena_rules.specs.Doubling.{IsDoubling}
use Rattle.call_rules.specs.MadeFirst.{made_first}
use Rattle.call_rules.specs.Machine.{Machine, Held, Contents, IsSound, run, told, is_reset}
use Rattle.call_rules.specs.Requests.{requests_of, takes_memory}
use Rattle.call_rules.specs.Counts.{statistics_of}
use Rattle.arena_rules.specs.declared.place.Place.{Place}
use Rattle.call_rules.specs.declared.calls.Call.{Call}
use Rattle.call_rules.specs.declared.calls.Reply.{Reply}
use Rattle.arena_store.specs.Memory.{Memory, KeepsUsed, image, bytes_from, block_at}
use Rattle.arena_store.specs.Source.{View, IsAsked}
use Rattle.arena_store.specs.declared.block.Block.{Block}
use Rattle.arena_runs.specs.declared.run.Stopped.{Stopped}
use Rattle.arena_runs.specs.declared.run.Stopped.TheVariants.{OutOfMemory}

-- the names and their blocks, by ascending name
abbrev pub held_blocks : ℕ → Held → List (ℕ × Block)
held_blocks generation held = map (λ (e : ℕ × Place). (e.0, block_at generation e.1)) (finite.entries held)

-- each name's bytes are at its place
pub record HoldsBytes (memory : Memory) (held : Held) (bytes : Contents) : Type 0 where
  pub each : (name : ℕ) (p : Place) → finite.get held name ≡ Some p → finite.get bytes name ≡ Some (bytes_from (image memory) p.addr p.size)

-- what was in use is kept, unless there was a reset
abbrev pub KeepsUnlessReset : List Call → Memory → Memory → Type 0
KeepsUnlessReset calls entry exit = list_any is_reset calls ≡ false → KeepsUsed entry exit

-- If each chunk was made at the first size that was tried for it, chunks still double, for any least size up to that of
-- a first chunk.
abbrev pub KeepsDoubling : List Call → List ℕ → State → State → Type 0
KeepsDoubling calls ks entry exit =
    (least : ℕ) → least ≤ 16320 → IsTrue (made_first entry calls ks) → IsDoubling least entry.chunks → IsDoubling least exit.chunks

-- The arena is in the machine's last state, which is valid, and has its blocks, which are sound, with their bytes.
pub record StandsFor (memory : Memory) (last : Machine) : Type 0 where
  pub state : memory.state ≡ last.state
  pub valid : IsValid memory.state
  pub sound : IsSound last.state last.held
  pub bytes : HoldsBytes memory last.held last.bytes

-- What is true of a run besides its replies: the source refused exactly as often as reported, and was asked for what
-- the rules ask for; the statistics are the rules'; what was in use before is as it was, unless there was a reset; and
-- chunks that double still do, if each is made at the first size that is tried.
pub record RunLeaves (entry exit : View) (calls : List Call) (ks : List ℕ) : Type 0 where
  pub asked : IsAsked entry.source exit.source (sum ks) (requests_of entry.memory.state calls ks)
  pub statistics : exit.memory.statistics ≡ statistics_of entry.memory.state calls ks entry.memory.statistics
  pub kept : KeepsUnlessReset calls entry.memory exit.memory
  pub doubling : KeepsDoubling calls ks entry.memory.state exit.memory.state

-- The replies are those of the machine, given the refusals that they report, and the blocks are those that it holds.
pub record Runs (entry exit : View) (calls : List Call) (replies : List Reply) (blocks : List (ℕ × Block)) : Type 0 where
  pub last : Machine
  pub ran : run entry.memory.state calls (told replies) ≡ Some (replies, last)
  pub stands : StandsFor exit.memory last
  pub held : blocks ≡ held_blocks last.state.generation last.held
  pub leaves : RunLeaves entry exit calls (told replies)

-- The arena is in the state after the first `done` calls: they are a run of the machine. The run stopped before or at
-- its first call, after its last, or at a call that takes memory.
pub record RunsFirst (entry exit : View) (calls : List Call) (done : ℕ) : Type 0 where
  pub within : done ≤ length calls
  pub replies : List Reply
  pub last : Machine
  pub ran : run entry.memory.state (take done calls) (told replies) ≡ Some (replies, last)
  pub stands : StandsFor exit.memory last
  pub leaves : RunLeaves entry exit (take done calls) (told replies)
  pub stops : (call : Call) → 0 < done → slice_get calls done ≡ Some call → IsTrue (takes_memory call last)

abbrev pub Stops : View → View → List Call → Stopped → Type 0
Stops entry exit calls (OutOfMemory done) = RunsFirst entry exit calls done

-- the same, with a property of the replies of the calls that were run
abbrev pub StopsWith : View → View → List Call → (List Reply → Type 0) → Stopped → Type 0
StopsWith entry exit calls P (OutOfMemory done) = (first : RunsFirst entry exit calls done) × P first.replies
