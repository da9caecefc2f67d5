-- How many bytes of the chunks a block takes.
use Rattle.std.specs.Prelude.{◌≡◌, ℕ, ◌-◌, max, Option, Some, None}
use Rattle.arena_rules.specs.Rounding.{down}
use Rattle.arena_rules.specs.State.{State, cursor_of, top_of}
use Rattle.arena_rules.specs.Moves.Resizing.{Moves}
use Rattle.arena_rules.specs.Blocks.{growing_block, shrinking_block}
use Rattle.arena_rules.specs.declared.place.Place.{Place}

-- how far the bump step moves a cursor down for a size, to a multiple of the unit
abbrev pub taken : ℕ → ℕ → ℕ → ℕ
taken cursor size unit = cursor - down (cursor - size) unit

-- A block is placed at a multiple of its alignment and of the least one: of the greater of the two.
abbrev pub unit_of : State → ℕ → ℕ
unit_of state align = max align state.min_align

-- what a block was placed below: the cursor if there is a place, and otherwise the data end of the new chunk
abbrev pub placed_below : Option ℕ → State → State → ℕ
placed_below (Some p) old new = cursor_of old.chunks
placed_below None old new = top_of new.chunks

-- ---- A block that is resized

-- the block grows in place, down to q
abbrev pub GrowsTo : State → Place → ℕ → ℕ → ℕ → Type 0
GrowsTo state block size align q = growing_block state block size align ≡ Moves q

-- the block shrinks in place, up to q
abbrev pub ShrinksTo : State → Place → ℕ → ℕ → ℕ → Type 0
ShrinksTo state block size align q = shrinking_block state block size align ≡ Moves q
