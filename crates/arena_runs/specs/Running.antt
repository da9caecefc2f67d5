-- The state of a run of calls over an arena, call by call.
use Rattle.std.specs.Prelude.{◌≡◌, ℕ, false, Some, List, [], ◌∷◌, ◌++◌, sum, take, length, slice_get}
use Rattle.std.specs.List.{list_any}
use Rattle.call_rules.specs.Machine.{Held, Contents, run, told, is_reset}
use Rattle.call_rules.specs.Requests.{requests_of}
use Rattle.call_rules.specs.Counts.{statistics_of}
use Rattle.call_rules.specs.declared.calls.Call.{Call}
use Rattle.call_rules.specs.declared.calls.Reply.{Reply}
use Rattle.arena_store.specs.Source.{View, IsAsked}
use Rattle.arena_runs.specs.Runs.{HoldsBytes, Runs, RunsFirst}
use Rattle.arena_runs.specs.Serving.{machine_of, Holds, Keeps}
use Rattle.arena_runs.specs.Marks.{Noted, named, Tracks, KeepEntry}
use Rattle.arena_store.specs.declared.block.Block.{Block}

-- The calls so far gave these replies: they are a run of the machine to the present arena, blocks of names, and marks.
-- It asked for what the rules ask for, and what was in use at its entry is kept, unless there was a reset.
pub record IsRunning (entry now : View) (names : Held) (noted : Noted) (calls : List Call) (replies : List Reply) : Type 0 where
  pub bytes : Contents
  pub ran : run entry.memory.state calls (told replies) ≡ Some (replies, machine_of now.memory names (named noted.marks) bytes)
  pub held : HoldsBytes now.memory names bytes
  pub holds : Holds now.memory.state names
  pub asked : IsAsked entry.source now.source (sum (told replies)) (requests_of entry.memory.state calls (told replies))
  pub statistics : now.memory.statistics ≡ statistics_of entry.memory.state calls (told replies) entry.memory.statistics
  pub tracks : Tracks now.memory.state names noted
  pub keeps : list_any is_reset calls ≡ false → Keeps entry.memory now.memory names
      × KeepEntry entry.memory.state now.memory.state noted.marks

-- the state of some run
abbrev pub IsOnTheWay : View → Held → Noted → Type 0
IsOnTheWay now names noted =
    (entry : View) × (calls : List Call) × (replies : List Reply) × IsRunning entry now names noted calls replies

-- whatever ran before, the run continued by a call and its reply
abbrev pub GoesOn : Call → Reply → View → View → Held → Held → Noted → Noted → Type 0
GoesOn call reply old new names held noted later =
    (entry : View) (calls : List Call) (replies : List Reply) → IsRunning entry old names noted calls replies
    → IsRunning entry new held later (calls ++ call ∷ []) (replies ++ reply ∷ [])

-- For all calls of which the first were run and this is the next: no more were run.
abbrev pub StaysAt : Call → View → View → Held → Noted → Type 0
StaysAt call old new names noted =
    (entry : View) (calls : List Call) (done : ℕ) (replies : List Reply) → IsRunning entry old names noted (take done calls) replies
    → slice_get calls done ≡ Some call → (first : RunsFirst entry new calls done) × (first.replies ≡ replies)

-- For all calls, if all of them were run: no more were run.
abbrev pub StaysBehind : View → Held → Noted → Type 0
StaysBehind now names noted =
    (entry : View) (calls : List Call) (replies : List Reply) → IsRunning entry now names noted calls replies
    → (first : RunsFirst entry now calls (length calls)) × (first.replies ≡ replies)

-- whatever ran, these are the blocks at its end
abbrev pub EndsWith : View → Held → Noted → List (ℕ × Block) → Type 0
EndsWith now names noted blocks =
    (entry : View) (calls : List Call) (replies : List Reply) → IsRunning entry now names noted calls replies
    → Runs entry now calls replies blocks
