-- Which blocks calls ask their arena for, by size and alignment, and that one of them has no place.
use Rattle.std.specs.Prelude.{◌≡◌, ℕ, ◌*◌, None}
use Rattle.arena_rules.specs.Search.{place}
use Rattle.arena_chunks.specs.Source.{View}
use Rattle.arena_items.specs.declared.room.Growth.{Growth}
use Rattle.arena_items.specs.declared.room.Growth.TheVariants.{GrowsTo}

abbrev pub Layouts : Type 1
Layouts = ℕ → ℕ → Type 0

-- this one alone
abbrev pub Only : ℕ → ℕ → Layouts
Only wanted align_wanted size align = (size ≡ wanted) × (align ≡ align_wanted)

-- the bytes of a text
abbrev pub TextOf : ℕ → Layouts
TextOf bytes = Only bytes 1

-- what a collection of values of this size and alignment asks for in this growth, if anything
abbrev pub RoomFor : (value_size value_align : ℕ) → Growth → Layouts
RoomFor value_size value_align (GrowsTo more) size align = Only (more * value_size) value_align size align
RoomFor value_size value_align growth size align = ⊥

-- A block of one of these layouts has no place in the arena.
pub record IsDenied (layouts : Layouts) (a : View) : Type 0 where
  pub size : ℕ
  pub align : ℕ
  pub asked : layouts size align
  pub none : place a.memory.state size align ≡ None
