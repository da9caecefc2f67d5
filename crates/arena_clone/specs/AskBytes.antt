-- How many bytes come into use by what a call asks of its arena.
use Rattle.std.specs.Prelude.{◌≡◌, ℕ, ◌+◌, ◌-◌, ◌*◌, ◌≤◌, max, Option, Some, None, List, [], ◌∷◌, IsTrue}
use Rattle.std.specs.List.{AllByRecursion}
use Rattle.arena_rules.specs.Rounding.{is_layout}
use Rattle.arena_rules.specs.State.{used_bytes}
use Rattle.arena_chunks.specs.Source.{View}
use Rattle.arena_items.specs.declared.room.AllocError.{AllocError}
use Rattle.arena_hash.specs.Policy.{IsSlotsFor}
use Rattle.arena_clone.specs.Asks.{Ask}
use Rattle.arena_clone.specs.Asks.Ask.{Room, Table, NoBytes, Empty, TooMuch}

-- what is asked for has a layout
abbrev pub has_layout : Ask → Type 0
has_layout (Room size align) = IsTrue (is_layout size align)
has_layout (Table pairs slot align) = (slots : ℕ) → IsSlotsFor pairs slots → IsTrue (is_layout (slots * slot) align)
has_layout NoBytes = Unit {0}
has_layout (Empty align) = Unit {0}
has_layout TooMuch = Unit {0}

abbrev pub have_layouts : List Ask → Type 0
have_layouts asks = AllByRecursion has_layout asks

-- The bytes of a block, and those with the most padding before it. A table has at least two slots for each pair, but at
-- least 8, and less than twice that many.
abbrev pub least_of : Ask → ℕ
least_of (Room size align) = size
least_of (Table pairs slot align) = max (2 * pairs) 8 * slot
least_of NoBytes = 0
least_of (Empty align) = 0
least_of TooMuch = 0

abbrev pub most_of : Ask → ℕ
most_of (Room size align) = size + (max align 16 - 1)
most_of (Table pairs slot align) = 2 * max (2 * pairs) 8 * slot + (max align 16 - 1)
most_of NoBytes = 0
most_of (Empty align) = 0
most_of TooMuch = 0

-- the bytes of all blocks together
abbrev pub least_bytes : List Ask → ℕ
least_bytes [] = 0
least_bytes (ask ∷ asks) = least_of ask + least_bytes asks

abbrev pub most_bytes : List Ask → ℕ
most_bytes [] = 0
most_bytes (ask ∷ asks) = most_of ask + most_bytes asks

abbrev pub used : View → ℕ
used a = used_bytes a.memory.state

-- A call brings this many bytes into use, and at most 15 of padding. If it is refused, the arena's state is as it was.
pub record BringsBytes (bytes : ℕ) (old new : View) (end : Option AllocError) : Type 0 where
  pub least : end ≡ None → used old + bytes ≤ used new
  pub most : used new ≤ used old + (bytes + 15)
  pub refused : (e : AllocError) → end ≡ Some e → new.memory.state ≡ old.memory.state
