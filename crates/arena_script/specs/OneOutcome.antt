-- A script's text and its arena's state determine its outcome, unless memory runs out or a source refuses.
use Rattle.std.specs.Prelude.{◌≡◌, ◌≢◌, ℕ, ◌-◌, ◌^◌, ◌<◌, ◌⊎◌, false, List}
use Rattle.arena_rules.specs.State.{State, allocated_bytes}
use Rattle.arena_chunks.specs.Source.{View}
use Rattle.script_rules.specs.declared.commands.Command.{Command}
use Rattle.script_rules.specs.declared.commands.Ended.TheVariants as ended
use Rattle.script_rules.specs.declared.outcome.Outcome.{Outcome}
use Rattle.arena_script.specs.Running.{IsRun}

-- the state without its generation
abbrev pub bare_state : State → State
bare_state state = record state { generation = 0 }

-- two states that differ at most by their generation
abbrev pub AreAlike : State → State → Type 0
AreAlike one two = bare_state one ≡ bare_state two

-- The arena doesn't grow, or its source refused no request: its count stayed, and isn't at its maximum.
abbrev pub IsUnrefused : View → View → Type 0
IsUnrefused old new =
    (old.memory.state.is_growing ≡ false) ⊎ ((new.source.refusals ≡ old.source.refusals) × (new.source.refusals < 2 ^ 64 - 1))

-- Over arenas whose states differ at most by their generations, a script has one outcome and leaves such states, unless
-- memory runs out or a source refuses a request.
abbrev pub HasOneOutcome : Type 0
HasOneOutcome = (script : List Command) (old new other next : View) (one two : Outcome)
    → AreAlike old.memory.state other.memory.state → IsUnrefused old new → IsUnrefused other next
    → IsRun script old new one → IsRun script other next two → one.ended ≢ ended.OutOfMemory → two.ended ≢ ended.OutOfMemory
    → (one ≡ two) × AreAlike new.memory.state next.memory.state

-- an arena that doesn't grow, with a region for this many bytes
pub record IsFixed (bytes : ℕ) (state : State) : Type 0 where
  pub still : state.is_growing ≡ false
  pub region : allocated_bytes state ≡ bytes

-- Over arenas that don't grow, the number of their bytes and the script determine the outcome, unless memory runs out.
abbrev pub FixedHasOneOutcome : Type 0
FixedHasOneOutcome = (bytes : ℕ) (script : List Command) (old new other next : View) (one two : Outcome)
    → IsFixed bytes old.memory.state → IsFixed bytes other.memory.state
    → IsRun script old new one → IsRun script other next two → one.ended ≢ ended.OutOfMemory → two.ended ≢ ended.OutOfMemory
    → (one ≡ two) × AreAlike new.memory.state next.memory.state
