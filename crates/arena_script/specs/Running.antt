-- What is promised of running a script on an arena of which nothing is used.
use Rattle.std.specs.Prelude.{◌≡◌, ◌≢◌, ℕ, ◌+◌, ◌≤◌, ◌⊎◌, Option, None, List, [], length, take, slice_get, IsSomeAnd, IsTrue}
use Rattle.arena_rules.specs.State.{IsValid}
use Rattle.arena_chunks.specs.Memory.{Memory}
use Rattle.arena_chunks.specs.Source.{View}
use Rattle.arena_chunks.specs.Asking.{AsksWithin, IsFull}
use Rattle.script_rules.specs.Objects.{get, Objects, need}
use Rattle.script_rules.specs.Effects.{effect}
use Rattle.script_rules.specs.Machine.{run, cost_of_first}
use Rattle.arena_rules.specs.Asking.{IsStarvedWithin}
use Rattle.script_rules.specs.declared.commands.Command.{Command}
use Rattle.script_rules.specs.declared.commands.Ended.{Ended}
use Rattle.script_rules.specs.declared.commands.Ended.TheVariants as ended
use Rattle.script_rules.specs.declared.outcome.Outcome.{Outcome}
use Rattle.arena_script.specs.Things.{Things, AreThings, objects_in}
use Rattle.arena_script.specs.Asks.{Blocks, asks}
use Rattle.arena_script.specs.Places.{DeniedBlock, RunsOut, block_at}
use Rattle.arena_script.specs.Acts.{used, HasNoPlace}
use Rattle.arena_items.specs.Costs.{KeepsKind}
use Rattle.arena_script.specs.Serves.{IsAfter}
use Rattle.arena_script.specs.Wants.{takes_memory}

-- The arena has things, one for each name, that share no memory and represent these objects.
pub record HoldsObjects (memory : Memory) (objects : Objects) : Type 0 where
  pub things : Things
  pub are : AreThings memory things
  pub mean : objects_in memory things ≡ objects

-- The replies are the first ones of the plain machine, and all of them if the script ended done.
pub record Replies (script : List Command) (outcome : Outcome) : Type 0 where
  pub first : outcome.replies ≡ take (length outcome.replies) (run script).replies
  pub all : outcome.ended ≡ ended.Done → outcome.replies ≡ (run script).replies

-- the cost of the commands up to the one after the last reply
abbrev pub cost_with_next : List Command → Outcome → ℕ
cost_with_next script outcome = cost_of_first (length outcome.replies + 1) script

-- the objects after the commands that have replies
abbrev pub objects_so_far : List Command → Outcome → Objects
objects_so_far script outcome = (run (take (length outcome.replies) script)).objects

-- No command was served, since memory ran out for the replies. Nothing changed.
pub record IsUnbegun (old new : View) (outcome : Outcome) : Type 0 where
  pub exhausted : outcome.ended ≡ ended.OutOfMemory
  pub none : outcome.replies ≡ []
  pub same : new ≡ old

-- The command after the last reply takes memory: it is the one that couldn't be served.
abbrev pub IsStoppedAt : List Command → Outcome → Type 0
IsStoppedAt script outcome = IsSomeAnd (slice_get script (length outcome.replies)) (λ c. IsTrue (takes_memory c))

-- How a script ended, at the next command if there is one, where names had these objects and blocks: after its last
-- command; since the arena refused the block that the next command asked for, with `k` requests of its source refused
-- and none granted; or since memory ran out, at the latest after that block was taken.
abbrev pub EndsBy : Ended → Option Command → Objects → Blocks → View → View → Type 0
EndsBy ended.Done next objects blocks old new = (next ≡ None) × (new ≡ old)
EndsBy ended.Full next objects blocks old new =
    IsSomeAnd next (λ c. (k : ℕ) × DeniedBlock (effect c (get objects)) (asks c (get objects) blocks) old new k)
EndsBy ended.Refused next objects blocks old new =
    IsSomeAnd next (λ c. (k : ℕ) × DeniedBlock (effect c (get objects)) (asks c (get objects) blocks) old new k)
EndsBy ended.OutOfMemory next objects blocks old new =
    (new ≡ old) ⊎ IsSomeAnd next (λ c. RunsOut (effect c (get objects)) (asks c (get objects) blocks) old new)

-- The commands with replies were served, each with the block that it asks for and nothing else, and left things in the
-- arena. Then the script ended.
pub record IsRunTo (script : List Command) (outcome : Outcome) (old new : View) : Type 0 where
  pub before : View
  pub things : Things
  pub after : IsAfter script old before things (length outcome.replies)
  pub ends : EndsBy outcome.ended (slice_get script (length outcome.replies)) (objects_so_far script outcome) (block_at things) before new

-- What a script begins on: nothing is in use, and blocks lie at any multiple of their own alignment.
pub record IsStart (start : View) : Type 0 where
  pub valid : IsValid start.memory.state
  pub unused : used start ≡ 0
  pub min_align : start.memory.state.min_align ≡ 1

pub record IsRun (script : List Command) (old new : View) (outcome : Outcome) : Type 0 where
  pub start : IsStart old
  pub replies : Replies script outcome
  pub holds : outcome.ended ≡ ended.Done → HoldsObjects new.memory (run script).objects
  pub asks : AsksWithin (used old + cost_with_next script outcome) old new
  pub used : outcome.used ≡ used new
  pub most : outcome.used ≤ cost_with_next script outcome
  pub least : outcome.ended ≡ ended.Done → need (run script).objects ≤ outcome.used
  pub so_far : need (objects_so_far script outcome) ≤ outcome.used
  pub full : outcome.ended ≡ ended.Full → IsFull (cost_with_next script outcome) old
  pub refused : outcome.ended ≡ ended.Refused
      → IsStarvedWithin (cost_with_next script outcome) old.memory.state new.memory.state old.source new.source
  pub ran : IsRunTo script outcome old new
  pub denied : outcome.ended ≢ ended.Done → outcome.ended ≢ ended.OutOfMemory → HasNoPlace (cost_with_next script outcome) new
  pub stopped : outcome.ended ≢ ended.Done → IsUnbegun old new outcome ⊎ IsStoppedAt script outcome
  pub kind : KeepsKind old.memory new.memory
