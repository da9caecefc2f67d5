-- A machine as a value, and what is true of the blocks that it holds.
use Rattle.std.specs.Prelude.{◌≡◌, ℕ, ◌+◌, ◌<◌, ◌≤◌, Some, [], ◌∷◌, IsTrue}
use Rattle.std.specs.FinMap as map
use Rattle.std.specs.Coded.{Coded, coded_ℕ, coded_list}
use Rattle.arena_rules.specs.State.{State}
use Rattle.arena_rules.specs.Back.{accepts}
use Rattle.call_rules.specs.Machine.{Held, Contents, Marks}
use Rattle.arena_rules.specs.declared.place.Place.{Place}
use Rattle.arena_rules.specs.contracts.place.Place as place

-- the codes of its maps
abbrev pub held_code : Coded Held
held_code = map.code coded_ℕ place.the_row.coded

abbrev pub contents_code : Coded Contents
contents_code = map.code coded_ℕ (coded_list coded_ℕ)

-- Each held block with bytes ends at `top` or below.
abbrev pub EndBelow : ℕ → Held → Type 0
EndBelow top held = (name : ℕ) (p : Place) → map.get held name ≡ Some p → 0 < p.size → p.addr + p.size ≤ top

-- The state accepts each mark. The newest has at most `n` chunks, and none has more than a newer one.
abbrev pub AreMarks : State → ℕ → Marks → Type 0
AreMarks state n [] = Unit {0}
AreMarks state n (mark ∷ older) = (mark.1.chunks ≤ n) × IsTrue (accepts mark.1 state) × AreMarks state mark.1.chunks older
