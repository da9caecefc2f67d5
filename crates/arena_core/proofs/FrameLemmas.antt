-- What calls do to the rest of an arena.
use Rattle.std.proofs.Common.{◌≡◌, ℕ, ◌+◌, ◌<◌, ◌≤◌, inl, inr, ap, arith, List, [], ◌∷◌, false, IsTrue, length}
use Rattle.std.specs.Prelude.{nat_le, nat_lt, ◌&&◌}
use Rattle.std.proofs.lemmas.Bool.{cases_lt}
use Rattle.std.proofs.lemmas.Bool.Decides.{nat_tests}
use Rattle.arena_rules.specs.State.{State, Chunk, IsValid, is_used, with_newest_cursor, allocated_bytes, AreApart}
use Rattle.arena_rules.specs.Moves.{dealloc}
use Rattle.arena_rules.specs.Blocks.{IsNewBlock, LieBeside}
use Rattle.arena_rules.proofs.RoundingLemmas.{up_ge, min_align_positive}
use Rattle.arena_rules.proofs.ReturnLemmas.{dealloc_keeps, dealloc_generation, dealloc_min_align, dealloc_is_growing, dealloc_allocated}
use Rattle.arena_store.specs.Memory.{Memory, byte_in, image, Writes}
use Rattle.arena_core.specs.Frame.{Frame, padded}
use Rattle.arena_store.specs.declared.block.Block.{Block}
use Rattle.arena_store.proofs.BytesLemmas.{written_beside}

-- the bytes don't depend on the cursor
pub bytes_moved : (p : ℕ) → (chunks : List Chunk) (bytes : List (List ℕ))
    → byte_in (with_newest_cursor p chunks) bytes ≡ byte_in chunks bytes
bytes_moved p chunks bytes = grind (arith, nat_tests)

pub byte_moved : (p : ℕ) → (chunks : List Chunk) (bytes : List (List ℕ)) (a : ℕ)
    → byte_in (with_newest_cursor p chunks) bytes a ≡ byte_in chunks bytes a
byte_moved p chunks bytes a = ap (λ (f : ℕ → ℕ). f a) (bytes_moved p chunks bytes)

-- ---- Ranges that are apart

-- Apart is symmetric.
pub apart_turned : (p m q n : ℕ) → AreApart p m q n → AreApart q n p m
apart_turned p m q n apart = λ some many. elim (apart many some) [ inl above ↦ inr above | inr below ↦ inl below ]

-- What is apart from a padded block is apart from the block.
pub apart_unpadded : (state : State) (p size addr n : ℕ) → IsValid state → LieBeside state p size addr n → AreApart addr n p size
apart_unpadded state p size addr n valid beside = grind (arith, nat_tests, up_ge, min_align_positive)

-- What is apart from a range is apart from a part of it.
pub apart_part : (addr n p m q k : ℕ) → AreApart addr n p m → p ≤ q → q + k ≤ p + m → AreApart addr n q k
apart_part addr n p m q k apart low high = grind (arith, nat_tests)

-- A range that begins at or above a block and is apart from it is above all of the block.
pub behind : (addr n p m : ℕ) → 0 < n → p ≤ addr → AreApart addr n p m → p + m ≤ addr
behind addr n p m some low apart = grind (arith, nat_tests, cases_lt)

-- An address apart from a block isn't in a range within the block.
pub beside_range : (p addr m from n : ℕ) → AreApart p 1 addr m → addr ≤ from → from + n ≤ addr + m
    → (nat_le from p && nat_lt p (from + n)) ≡ false
beside_range p addr m from n apart low high = grind (arith, nat_tests, cases_lt)

-- ---- Frames of calls

-- a block is new
pub frame_new : (old new : Memory) (size align : ℕ) (b : Block) → IsValid old.state → IsNewBlock old.state size align b.addr new.state
    → b.size ≡ size
    → (old.state.is_growing ≡ false → allocated_bytes new.state ≡ allocated_bytes old.state)
    → ((p : ℕ) → IsTrue (is_used old.state p) → image new p ≡ image old p) → Frame old new [] (b ∷ [])
frame_new old new size align b valid is sized allocated bytes = record {
  generation = is.generation;
  min_align = is.min_align;
  is_growing = is.is_growing;
  allocated = allocated;
  kept = λ addr n some used apart. is.keeps addr n used;
  apart = λ addr n some used apart. (rw sized (apart_unpadded old.state b.addr size addr n valid (is.beside addr n some used)), tt);
  bytes = λ p used apart. bytes p used;
}

-- a block is given back, with the addresses up to the next multiple of the least alignment
pub frame_dealloc : (old new : Memory) (block : Block) → new ≡ record old { state = dealloc old.state block.addr block.size }
    → ((p : ℕ) → image new p ≡ image old p) → Frame old new (padded old.state.min_align block ∷ []) []
frame_dealloc old new block is bytes =
    grind (arith, nat_tests, dealloc_generation, dealloc_min_align, dealloc_is_growing, dealloc_allocated, dealloc_keeps, apart_turned)

-- a range of a block is written
pub frame_written : (old new : Memory) (b : Block) (at : ℕ) (list : List ℕ) → new.state ≡ old.state → Writes old new (b.addr + at) list
    → at + length list ≤ b.size
    → Frame old new (b ∷ []) (b ∷ [])
frame_written old new b at list same writes fits = grind (arith, nat_tests, written_beside, beside_range)
