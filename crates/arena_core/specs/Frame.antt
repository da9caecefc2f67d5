-- What a call that works on some blocks does to the rest of an arena.
use Rattle.std.specs.Prelude.{◌≡◌, ℕ, ◌+◌, ◌<◌, ◌≤◌, false, List, [], ◌∷◌, IsTrue}
use Rattle.std.specs.List.{Contains}
use Rattle.arena_rules.specs.State.{State, Chunk, data_end, allocated_bytes, is_used, is_range_used, AreApart}
use Rattle.arena_rules.specs.Blocks.{padded_size}
use Rattle.arena_store.specs.Memory.{Memory, image, is_readable, bytes_from}
use Rattle.arena_store.specs.declared.block.Block.{Block}

-- the n addresses from this one on are apart from each of the blocks
abbrev pub IsApart : ℕ → ℕ → List Block → Type 0
IsApart addr n [] = Unit {0}
IsApart addr n (b ∷ bs) = AreApart addr n b.addr b.size × IsApart addr n bs

-- two blocks have no address in common
abbrev pub AreBlocksApart : Block → Block → Type 0
AreBlocksApart b c = AreApart b.addr b.size c.addr c.size

-- no two of the blocks have an address in common
abbrev pub ArePairwiseApart : List Block → Type 0
ArePairwiseApart [] = Unit {0}
ArePairwiseApart (b ∷ bs) = IsApart b.addr b.size bs × ArePairwiseApart bs

-- each block of one list is apart from each of the other
abbrev pub AreAllApart : List Block → List Block → Type 0
AreAllApart [] others = Unit {0}
AreAllApart (b ∷ bs) others = IsApart b.addr b.size others × AreAllApart bs others

-- A call that had the blocks before and has the blocks after leaves the rest as it was: what was in use apart from the
-- blocks before stays in use, with its bytes, and is apart from the blocks after. The arena's kind stays.
pub record Frame (old new : Memory) (before after : List Block) : Type 0 where
  pub generation : new.state.generation ≡ old.state.generation
  pub min_align : new.state.min_align ≡ old.state.min_align
  pub is_growing : new.state.is_growing ≡ old.state.is_growing
  pub allocated : old.state.is_growing ≡ false → allocated_bytes new.state ≡ allocated_bytes old.state
  pub kept : (addr n : ℕ) → 0 < n → IsTrue (is_range_used old.state.chunks addr n) → IsApart addr n before
      → IsTrue (is_range_used new.state.chunks addr n)
  pub apart : (addr n : ℕ) → 0 < n → IsTrue (is_range_used old.state.chunks addr n) → IsApart addr n before → IsApart addr n after
  pub bytes : (p : ℕ) → IsTrue (is_used old.state p) → IsApart p 1 before → image new p ≡ image old p

-- A block that is apart from those before is readable afterwards, with its bytes, and apart from those after.
pub record Stays (old new : Memory) (after : List Block) (b : Block) : Type 0 where
  pub readable : IsTrue (is_readable new.state b)
  pub bytes : bytes_from (image new) b.addr b.size ≡ bytes_from (image old) b.addr b.size
  pub apart : IsApart b.addr b.size after

-- The block is of the arena's generation, and its bytes are in one chunk's used part.
pub record IsInUse (state : State) (b : Block) : Type 0 where
  pub generation : b.generation ≡ state.generation
  pub chunk : Chunk
  pub among : Contains state.chunks chunk
  pub low : chunk.cursor ≤ b.addr
  pub high : b.addr + b.size ≤ data_end chunk

-- a block with the addresses up to the next multiple of the least alignment
abbrev pub padded : ℕ → Block → Block
padded m b = record b { size = padded_size m b.addr b.size }
