-- How an arena stores its chunks: the newest in a field of its own, the others in a table.
use Rattle.std.specs.Prelude.{◌≡◌, ◌⊎◌, ℕ, ◌+◌, ◌-◌, ◌^◌, ◌<◌, ◌≤◌, ◌==◌, Bool, Option, Some, None, List, [], ◌∷◌, length, map, nat_le, take, drop, if◌then◌else◌}
use Rattle.std.specs.Borrow.{Bor}
use Rattle.std.specs.List.{All}
use Rattle.arena_rules.specs.State.{Chunk, IsValid}
use Rattle.arena_region.specs.Bytes.{bytes, written_from}
use Rattle.arena_store.specs.Memory.{Memory}
use Rattle.arena_store.specs.declared.chunk.StoredChunk.{StoredChunk}

abbrev pub stored_chunk : StoredChunk → Chunk
stored_chunk c = record { base = c.base; size = length c.bytes.items; cursor = c.cursor }

abbrev pub stored_bytes : StoredChunk → List ℕ
stored_bytes c = c.bytes.items

-- the lowest address whose byte is ready
abbrev pub floor_in : StoredChunk → ℕ
floor_in c = c.base + c.bytes.low

-- what is used is ready
abbrev pub IsReady : StoredChunk → Type 0
IsReady c = floor_in c ≤ c.cursor

-- all chunks, newest first: none if the newest begins at 16, which means that there is no chunk
abbrev pub all_chunks : StoredChunk → List StoredChunk → List StoredChunk
all_chunks newest older = if newest.base == 16 then [] else newest ∷ older

abbrev pub memory_of : ℕ → Bool → ℕ → ℕ → ℕ → StoredChunk → List StoredChunk → Memory
memory_of min_align is_growing generation allocations reallocations newest older = record {
  state = record {
    min_align = min_align;
    is_growing = is_growing;
    generation = generation;
    chunks = map stored_chunk (all_chunks newest older);
  };
  statistics = record { allocations = allocations; reallocations = reallocations };
  bytes = map stored_bytes (all_chunks newest older);
}

-- the value that means "no chunk" has no bytes, and there are no older chunks
pub record IsNone (newest : StoredChunk) (table : List StoredChunk) : Type 0 where
  pub cursor : newest.cursor ≡ 16
  pub bytes : newest.bytes.items ≡ []
  pub older : table ≡ []

-- the fields represent a valid state, and what is used in each chunk is ready
pub record IsStored (memory : Memory) (newest : StoredChunk) (older : List StoredChunk) : Type 0 where
  pub valid : IsValid memory.state
  pub none : newest.base ≡ 16 → IsNone newest older
  pub ready : IsReady newest
  pub older_ready : All IsReady older

-- the cursor is in the chunk's ready part, and the chunk is below 2 ^ 64
pub record IsOrdered (chunk : StoredChunk) : Type 0 where
  pub low : IsReady chunk
  pub high : chunk.cursor ≤ chunk.base + length chunk.bytes.items
  pub fits : chunk.base + length chunk.bytes.items < 2 ^ 64

-- the first of these chunks, and so each of them, begins below the address
abbrev pub IsTopmost : ℕ → List StoredChunk → Type 0
IsTopmost base [] = Unit {0}
IsTopmost base (newest ∷ older) = newest.base < base

-- the n oldest chunks
abbrev pub oldest : ℕ → List StoredChunk → List StoredChunk
oldest n chunks = drop (length chunks - n) chunks

-- the chunk is the oldest but i
abbrev pub IsOldest : List StoredChunk → ℕ → StoredChunk → Type 0
IsOldest chunks i c = oldest (i + 1) chunks ≡ c ∷ oldest i chunks

-- the cursor is at an address, from which on the chunk is ready
pub record IsMovedTo (old new : StoredChunk) (addr : ℕ) : Type 0 where
  pub low : ℕ
  pub chunk : new ≡ record { base = old.base; cursor = addr; bytes = bytes old.bytes.items low }
  pub ready : old.base + low ≤ addr

-- n bytes of the chunk from this address on
abbrev pub part_of : StoredChunk → ℕ → ℕ → List ℕ
part_of c addr n = take n (drop (addr - c.base) c.bytes.items)

-- the chunk with a list written over its bytes from an address on
abbrev pub with_part : StoredChunk → ℕ → List ℕ → StoredChunk
with_part c addr list = record c { bytes = bytes (written_from c.bytes.items (addr - c.base) list) c.bytes.low }

-- the chunk is ready from its cursor on, and its n bytes from this address on are used
pub record HasPart (c : StoredChunk) (addr n : ℕ) : Type 0 where
  pub ready : IsReady c
  pub used : c.cursor ≤ addr
  pub high : addr + n ≤ c.base + length c.bytes.items

-- The same in a list of chunks, newest first: the first that begins at or below the address has what is there.
abbrev pub HasPartIn : List StoredChunk → ℕ → ℕ → Type 0
HasPartIn [] addr n = ⊥
HasPartIn (c ∷ older) addr n = ((c.base ≤ addr) × HasPart c addr n) ⊎ ((addr < c.base) × HasPartIn older addr n)

abbrev pub part_in : List StoredChunk → ℕ → ℕ → List ℕ
part_in [] addr n = []
part_in (c ∷ older) addr n = if nat_le c.base addr then part_of c addr n else part_in older addr n

abbrev pub with_part_in : List StoredChunk → ℕ → List ℕ → List StoredChunk
with_part_in [] addr list = []
with_part_in (c ∷ older) addr list = if nat_le c.base addr then with_part c addr list ∷ older else c ∷ with_part_in older addr list

-- what remains of a walk: the newest chunk, if it is still to come, and the others
abbrev pub chunks_left : Option (Bor StoredChunk) → List StoredChunk → List StoredChunk
chunks_left None older = older
chunks_left (Some newest) older = newest.now ∷ older
