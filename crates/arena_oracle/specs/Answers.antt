-- What the exports answer.
use Rattle.std.specs.Prelude.{◌≡◌, ℕ, Bool, true, false, List, [], ◌++◌, length, drop, nat_le, if◌then◌else◌, Option, Some}
use Rattle.arena_rules.specs.Creation.{empty_state}
use Rattle.call_rules.specs.Generator.{gen_calls}
use Rattle.arena_store.specs.Memory.{Memory}
use Rattle.arena_store.specs.Source.{Source, View, view}
use Rattle.arena_core.specs.Creating.{uncounted_memory}
use Rattle.arena_calls.specs.Ends.{Outside, outside, Ends, GenEnds, EndsUnwritten, code_of}
use Rattle.arena_calls.specs.declared.status.Status.{Status}
use Rattle.arena_calls.specs.declared.status.Status.TheVariants.{Done, BadLine}
use Rattle.arena_drawing.specs.Ends.{Draws}
use Rattle.arena_oracle.specs.Limits.{KeepsLimits, limited}
use Rattle.arena_oracle.specs.declared.report.Report.{Report}

-- ---- How a run within limits ends

-- what each status says of the outside
abbrev pub Ending : Type 1
Ending = Status → Outside → Outside → Type 0

-- the same, where this is also true of a run that is done
abbrev pub Within : (Is : Ending) → ((old new : Outside) → Is Done old new → Type 0) → Status → Outside → Outside → Type 0
Within Is Kept Done old new = (ends : Is Done old new) × Kept old new ends
Within Is Kept status old new = Is status old new

-- As the program ends. The replies of a run that is done report the refusals of the limits.
abbrev pub CallsWithin : ℕ → List ℕ → Ending
CallsWithin budget refuse =
    Within Ends (λ old new ends. KeepsLimits budget refuse old.arena.memory.state ends.1.0 ends.1.2.replies)

abbrev pub DrawsWithin : ℕ → List ℕ → Ending
DrawsWithin budget refuse =
    Within Draws (λ old new ends. KeepsLimits budget refuse old.arena.memory.state ends.1.0 ends.1.2.replies)

abbrev pub GenWithin : ℕ → ℕ → ℕ → List ℕ → Ending
GenWithin start count budget refuse =
    Within (GenEnds start count) (λ old new ends. KeepsLimits budget refuse old.arena.memory.state (gen_calls start count) ends.2.replies)

-- a new arena with a source
abbrev pub new_arena : Source → View
new_arena source = view (uncounted_memory (empty_state 1) []) source

-- A run over a new arena ends with this status. The input had these bytes, the output has just this text, and neither
-- failed.
pub record Yields (Is : Ending) (lines : List ℕ) (before after : Source) (status : Status) (text : List ℕ) : Type 0 where
  pub left : Option (List ℕ)
  pub memory : Memory
  pub ends : Is status (outside (Some lines) 0 (Some []) 0 (new_arena before)) (outside left 0 (Some text) 0 (view memory after))

-- such a run from a source with limits
abbrev pub YieldsWithin : (ℕ → List ℕ → Ending) → List ℕ → Source → Source → Status → List ℕ → Type 0
YieldsWithin Is lines before after status text =
    (budget : ℕ) (refuse : List ℕ) → before ≡ limited budget refuse → Yields (Is budget refuse) lines before after status text

-- a run of the input's bytes ends with nothing written
abbrev pub YieldsNothing : Status → List ℕ → View → View → Type 0
YieldsNothing status lines entry exit =
    (left : Option (List ℕ)) × EndsUnwritten status (outside (Some lines) 0 (Some []) 0 entry) (outside left 0 (Some []) 0 exit)

abbrev pub is_done : Status → Bool
is_done Done = true
is_done status = false

-- ---- What is returned

-- the line that a status names, or 0
abbrev pub line_of : Status → ℕ
line_of (BadLine n) = n
line_of status = 0

-- The text is at the front of the buffer, if it has room there; else the code is 7, and the buffer is as it was.
pub record IsReturned (status : Status) (text : List ℕ) (refused : ℕ) (old new : List ℕ) (report : Report) (code : ℕ) : Type 0 where
  pub bytes : new ≡ (if nat_le (length text) (length old) then text ++ drop (length text) old else old)
  pub is : code ≡ (if nat_le (length text) (length old) then code_of status else 7)
  pub count : report.length ≡ length text
  pub line : report.line ≡ line_of status
  pub refusals : report.refused ≡ refused
