-- The marks of a run, and the log of names that going back to them may remove.
use Rattle.std.specs.Prelude.{◌≡◌, ◌≢◌, ℕ, ◌+◌, ◌-◌, ◌<◌, ◌≤◌, ◌⊎◌, ◌==◌, ◌&&◌, nat_lt, if◌then◌else◌, Bool, true, false, Some, None, IsTrue, List, [], ◌∷◌, ◌++◌, map, take, length, get_or}
use Rattle.std.specs.Option.{is_some, option_map_or}
use Rattle.std.specs.List.{AllByRecursion}
use Rattle.std.specs.Ordering.{nat_cmp}
use Rattle.std.specs.BTreeSet.{BTreeSet, contains}
use Rattle.std.specs.FinMap as finite
use Rattle.arena_rules.specs.State.{State, cursor_of, is_used, is_place_used}
use Rattle.arena_rules.specs.Back.{back, accepts, is_in_part}
use Rattle.call_rules.specs.Machine.{Held, Marks, mark_named, is_left}
use Rattle.arena_rules.specs.declared.place.Place.{Place}
use Rattle.arena_core.specs.Checkpoints.{mark_at}
use Rattle.arena_runs.specs.declared.marks.Mark.{Mark}

-- The marks are in order, newest first, and the names of the log oldest first.
pub record Noted : Type 0 where
  pub marks : List Mark
  pub log : List ℕ

-- the marks as the machine has them
abbrev pub named : List Mark → Marks
named marks = map (λ (m : Mark). (m.name, mark_at m.checkpoint)) marks

-- the name's mark, and those that are older
abbrev pub marks_from : ℕ → List Mark → List Mark
marks_from name [] = []
marks_from name (m ∷ older) = if m.name == name then m ∷ older else marks_from name older

-- No two marks have one name.
abbrev pub AreDistinct : List Mark → Type 0
AreDistinct [] = Unit {0}
AreDistinct (m ∷ older) = (mark_named (named older) m.name ≡ None) × AreDistinct older

-- the set has the marks' names
pub record Knows (known : BTreeSet ℕ) (marks : List Mark) : Type 0 where
  pub distinct : AreDistinct marks
  pub names : (q : ℕ) → contains nat_cmp known q ≡ is_some (mark_named (named marks) q)

-- ---- The log

-- the name is in the log, at this index or after it
abbrev pub IsNoted : List ℕ → ℕ → ℕ → Type 0
IsNoted log from name = (i : ℕ) × (from ≤ i) × (i < length log) × (get_or log i 0 ≡ name)

-- the name's block isn't empty, and begins in the mark's part, or doesn't
abbrev pub Lies : Bool → State → Held → Mark → ℕ → Type 0
Lies inside state names m name =
    (p : Place) × (finite.get names name ≡ Some p) × (0 < p.size) × (is_in_part (mark_at m.checkpoint) state p.addr ≡ inside)

-- The arena can go back to the mark. The log has each name whose block this would free, after all names whose blocks
-- would remain.
pub record TracksMark (state : State) (names : Held) (log : List ℕ) (m : Mark) : Type 0 where
  pub generation : m.checkpoint.generation ≡ state.generation
  pub accepted : IsTrue (accepts (mark_at m.checkpoint) state)
  pub noted : (name : ℕ) → Lies false state names m name → IsNoted log 0 name
  pub behind : (i : ℕ) → i < length log → Lies true state names m (get_or log i 0) → (name : ℕ) → Lies false state names m name
      → IsNoted log (i + 1) name

-- a mark that was set before another
abbrev pub IsOlder : Mark → Mark → Type 0
IsOlder m older = older.checkpoint.chunks ≤ m.checkpoint.chunks

abbrev pub AreTracked : State → Held → List ℕ → List Mark → Type 0
AreTracked state names log [] = Unit {0}
AreTracked state names log (m ∷ older) =
    TracksMark state names log m × AllByRecursion (IsOlder m) older × AreTracked state names log older

abbrev pub Tracks : State → Held → Noted → Type 0
Tracks state names noted = AreTracked state names noted.log noted.marks

-- what was in use at entry is in each mark's part
abbrev pub KeepEntry : State → State → List Mark → Type 0
KeepEntry entry state marks = AllByRecursion (λ (m : Mark). (addr : ℕ)
    → IsTrue (is_used entry addr) → IsTrue (is_used (back (mark_at m.checkpoint) state) addr)) marks

-- ---- One call

-- each name holds a first part of what it held, or nothing
abbrev pub AreWithin : Held → Held → Type 0
AreWithin names held = (name : ℕ) (p : Place) → finite.get held name ≡ Some p
    → (before : Place) × (finite.get names name ≡ Some before) × (before.addr ≡ p.addr) × (p.size ≤ before.size)

-- the name's block is at the cursor, if it isn't empty, and the other names hold what they held
pub record IsAtCursor (state : State) (names held : Held) (name : ℕ) : Type 0 where
  pub own : (p : Place) → finite.get held name ≡ Some p → 0 < p.size → p.addr ≡ cursor_of state.chunks
  pub rest : (q : ℕ) → q ≢ name → finite.get held q ≡ finite.get names q

-- A call other than one on a mark: if there are marks, the log has one more name if its block was placed at the cursor,
-- and is as it was if no block was placed.
pub record Notes (state : State) (names held : Held) (old new : Noted) : Type 0 where
  pub marks : new.marks ≡ old.marks
  pub log : 0 < length old.marks → ((new.log ≡ old.log) × AreWithin names held)
      ⊎ ((name : ℕ) × (new.log ≡ old.log ++ name ∷ []) × IsAtCursor state names held name)

-- the name's block is in use and isn't empty
abbrev pub stands : State → Held → ℕ → Bool
stands state names name = option_map_or (λ (p : Place). nat_lt 0 p.size && is_place_used state p) (finite.get names name) false

-- Some names whose blocks aren't in use were removed. Of those in the log from an index on, none is left with a block
-- of some bytes.
pub record LetsGo (state : State) (names held : Held) (from : ℕ) (log : List ℕ) : Type 0 where
  pub within : from ≤ length log
  pub left : (q : ℕ) → IsTrue (is_left state names q) → finite.get held q ≡ finite.get names q
  pub less : (q : ℕ) (p : Place) → finite.get held q ≡ Some p → finite.get names q ≡ Some p
  pub ended : (q : ℕ) (p : Place) → IsNoted log from q → finite.get held q ≡ Some p → p.size ≡ 0

-- The removal came to the start of the log, or to a name whose block is in use and isn't empty.
pub record Forgets (state : State) (names held : Held) (old new : Noted) : Type 0 where
  pub marks : new.marks ≡ old.marks
  pub from : ℕ
  pub log : new.log ≡ take from old.log
  pub lets : LetsGo state names held from old.log
  pub over : 0 < from → IsTrue (stands state held (get_or old.log (from - 1) 0))
