-- A state, answers and replies, with what they leave.
use Rattle.std.specs.Prelude.{ℕ, ◌+◌, ◌<◌, ◌≤◌, Option, List, [], Vec, true, IfSome}
use Rattle.std.specs.declared.alloc.Global.{Global}
use Rattle.std.specs.Option.{option_map}
use Rattle.arena_rules.specs.State.{State, Chunk}
use Rattle.arena_rules.specs.Moves.{Outcome}
use Rattle.call_rules.specs.Machine.{Machine, Next}
use Rattle.call_rules.specs.declared.calls.Reply.{Reply}

-- the state of a growing arena
abbrev pub growing_state : ℕ → ℕ → List Chunk → State
growing_state min_align generation chunks =
    record { min_align = min_align; is_growing = true; generation = generation; chunks = chunks }

-- the state of a growing arena that has no chunk yet
abbrev pub first_state : ℕ → State
first_state min_align = growing_state min_align 0 []

-- the outcome of an answer, if there is a step
abbrev pub leaves : State → Option (Option ℕ) → Option Outcome
leaves state answer = option_map {T = Option ℕ} {U = Outcome} (λ a. record { answer = a; state = state }) answer

-- a block with bytes, if one is placed, ends at `top` or below
abbrev pub EndsWithin : ℕ → Option (Option ℕ) → ℕ → Type 0
EndsWithin size answer top = IfSome answer (λ a. IfSome a (λ p. 0 < size → p + size ≤ top))

-- a reply, if there is a step, with the machine after it
abbrev pub gives : Machine → Option Reply → Option Next
gives machine reply = option_map {T = Reply} {U = Next} (λ r. (r, machine)) reply

-- the replies, if there is a run, with the machine after it
abbrev pub gives_all : Machine → Option (Vec Reply Global) → Option (List Reply × Machine)
gives_all machine replies = option_map {T = Vec Reply Global} {U = List Reply × Machine} (λ v. (v.items, machine)) replies

-- the replies, if there is a run
abbrev pub replies_of : Option (Vec Reply Global) → Option (List Reply)
replies_of replies = option_map {T = Vec Reply Global} {U = List Reply} (λ v. v.items) replies
