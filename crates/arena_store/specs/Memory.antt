-- An arena as contracts see it: its places, its statistics, and the bytes of its chunks.
use Rattle.std.specs.Prelude.{◌≡◌, ℕ, zero, suc, ◌+◌, ◌-◌, Bool, ◌&&◌, ◌||◌, ◌==◌, nat_le, nat_lt, if◌then◌else◌, List, [], ◌∷◌, map, slice_index, length, IsTrue}
use Rattle.arena_rules.specs.State.{State, Chunk, data_end, used_length, is_used, is_range_used}
use Rattle.arena_rules.specs.Statistics.{Statistics}
use Rattle.arena_rules.specs.declared.place.Place.{Place}
use Rattle.arena_store.specs.declared.block.Block.{Block}

-- The lists of bytes are in order, newest chunk first, each from its chunk's base on.
pub record Memory : Type 0 where
  pub state : State
  pub statistics : Statistics
  pub bytes : List (List ℕ)

-- the byte at an address; 0 where there is no chunk
abbrev pub byte_in : List Chunk → List (List ℕ) → ℕ → ℕ
byte_in [] bytes addr = 0
byte_in (newest ∷ older) [] addr = 0
byte_in (newest ∷ older) (list ∷ bytes) addr =
    if nat_le newest.base addr then slice_index list (addr - newest.base) else byte_in older bytes addr

-- 48 addresses past the newest data end; 16 without a chunk
abbrev pub end_of : List Chunk → ℕ
end_of [] = 16
end_of (newest ∷ older) = data_end newest + 48

-- The image of an arena: the byte at each address.
abbrev pub image : Memory → ℕ → ℕ
image memory addr = byte_in memory.state.chunks memory.bytes addr

-- the n bytes of an image from this address on
unfoldable pub bytes_from : (ℕ → ℕ) → ℕ → ℕ → List ℕ
bytes_from bytes addr zero = []
bytes_from bytes addr (suc n) = bytes addr ∷ bytes_from bytes (addr + 1) n

-- the block of a generation at a place
abbrev pub block_at : ℕ → Place → Block
block_at generation place = record { generation = generation; addr = place.addr; size = place.size; align = place.align }

-- A block may be read if it is empty, or of this generation with its bytes in one chunk's used part.
abbrev pub is_readable : State → Block → Bool
is_readable state block =
    block.size == 0 || (block.generation == state.generation && is_range_used state.chunks block.addr block.size)

-- the used parts of the chunks, newest first: their bytes, and where they begin and how long they are
abbrev pub used_parts : Memory → List (List ℕ)
used_parts memory = map (λ (c : Chunk). bytes_from (image memory) c.cursor (used_length c)) memory.state.chunks

abbrev pub used_ranges : State → List (ℕ × ℕ)
used_ranges state = map (λ (c : Chunk). (c.cursor, used_length c)) state.chunks

-- what is used stays used, with its bytes
pub record KeepsUsed (old new : Memory) : Type 0 where
  pub used : (addr : ℕ) → IsTrue (is_used old.state addr) → IsTrue (is_used new.state addr)
  pub bytes : (addr : ℕ) → IsTrue (is_used old.state addr) → image new addr ≡ image old addr

-- an image with this list from an address on
abbrev pub written : (ℕ → ℕ) → ℕ → List ℕ → ℕ → ℕ
written bytes from list addr = if nat_le from addr && nat_lt addr (from + length list) then slice_index list (addr - from) else bytes addr

-- every address has the same byte, except in the written range
abbrev pub Writes : Memory → Memory → ℕ → List ℕ → Type 0
Writes old new from list = (addr : ℕ) → image new addr ≡ written (image old) from list addr
