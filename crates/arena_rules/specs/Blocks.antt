-- How a block that was just placed, grown or shrunk relates to the states before and after.
use Rattle.std.specs.Prelude.{◌≡◌, ℕ, ◌+◌, ◌-◌, ◌%◌, ◌<◌, ◌≤◌, IsTrue, Option}
use Rattle.arena_rules.specs.Rounding.{up, is_layout}
use Rattle.arena_rules.specs.State.{State, is_range_used, top_of, AreApart, is_place_used}
use Rattle.arena_rules.specs.Moves.{Outcome, Resizing, growing, grow, shrinking, shrink}
use Rattle.arena_rules.specs.declared.place.Place.{Place}

-- the size of a block at p with the addresses up to the next multiple of the least alignment
abbrev pub padded_size : ℕ → ℕ → ℕ → ℕ
padded_size min_align p size = up (p + size) min_align - p

-- the n addresses from this one on are apart from the padded block at p
abbrev pub LieBeside : State → ℕ → ℕ → ℕ → ℕ → Type 0
LieBeside state p size addr n = AreApart p (padded_size state.min_align p size) addr n

-- The block is aligned and in use, at or below the newest data end, which never falls. What was in use stays in use,
-- and is apart from the block.
pub record IsNewBlock (old : State) (size align p : ℕ) (new : State) : Type 0 where
  pub min_align : new.min_align ≡ old.min_align
  pub is_growing : new.is_growing ≡ old.is_growing
  pub generation : new.generation ≡ old.generation
  pub aligned : p % align ≡ 0
  pub min_aligned : p % old.min_align ≡ 0
  pub used : 0 < size → IsTrue (is_range_used new.chunks p size)
  pub within : p + size ≤ top_of new.chunks
  pub later : top_of old.chunks ≤ top_of new.chunks
  pub keeps : (addr n : ℕ) → IsTrue (is_range_used old.chunks addr n) → IsTrue (is_range_used new.chunks addr n)
  pub beside : (addr n : ℕ) → 0 < n → IsTrue (is_range_used old.chunks addr n) → LieBeside old p size addr n

-- A block that a caller holds: its layout is valid, it is aligned, and it is in use or empty.
pub record IsBlock (state : State) (block : Place) : Type 0 where
  pub layout : IsTrue (is_layout block.size block.align)
  pub aligned : block.addr % block.align ≡ 0
  pub min_aligned : block.addr % state.min_align ≡ 0
  pub used : IsTrue (is_place_used state block)

-- A block in place of an old one is aligned and in use. What was in use apart from the old block stays in use, and is
-- apart from the new one.
pub record IsMovedBlock (old : State) (block : Place) (size align p : ℕ) (new : State) : Type 0 where
  pub min_align : new.min_align ≡ old.min_align
  pub is_growing : new.is_growing ≡ old.is_growing
  pub generation : new.generation ≡ old.generation
  pub aligned : p % align ≡ 0
  pub min_aligned : p % old.min_align ≡ 0
  pub used : 0 < size → IsTrue (is_range_used new.chunks p size)
  pub keeps : (addr n : ℕ) → 0 < n → IsTrue (is_range_used old.chunks addr n) → LieBeside old block.addr block.size addr n
      → IsTrue (is_range_used new.chunks addr n)
  pub beside : (addr n : ℕ) → 0 < n → IsTrue (is_range_used old.chunks addr n) → LieBeside old block.addr block.size addr n
      → LieBeside old p size addr n

-- ---- A block that is resized

-- what becomes of it, and the move
abbrev pub growing_block : State → Place → ℕ → ℕ → Resizing
growing_block state block size align = growing state block.addr block.size block.align size align

abbrev pub grow_block : State → Place → ℕ → ℕ → ℕ → Option Outcome
grow_block state block size align k = grow state block.addr block.size block.align size align k

abbrev pub shrinking_block : State → Place → ℕ → ℕ → Resizing
shrinking_block state block size align = shrinking state block.addr block.size block.align size align

abbrev pub shrink_block : State → Place → ℕ → ℕ → ℕ → Option Outcome
shrink_block state block size align k = shrink state block.addr block.size block.align size align k
