-- The table of the chunks but the newest: the bases are stored apart from the bytes.
use Rattle.std.specs.Prelude.{◌≡◌, nat_le, if◌then◌else◌, Option, Some, None, ℕ, ◌+◌, ◌-◌, ◌<◌, ◌≤◌, List, [], ◌∷◌, length, min, slice_index}
use Rattle.std.specs.List.{All}
use Rattle.arena_bases.specs.Bases.{Numbers}
use Rattle.arena_store.specs.declared.chunk.StoredChunk.{StoredChunk}
use Rattle.arena_store.specs.declared.table.Kept.{Kept}
use Rattle.arena_store.specs.Chunks.{Chunks}

-- the chunk that begins at a base, with these bytes, the last of which are used
abbrev pub chunk_of : ℕ → Kept → StoredChunk
chunk_of base k = record { base = base; cursor = base + (length k.bytes.items - k.used); bytes = k.bytes }

-- chunks with those of a table put before them, each newer than the one before
abbrev pub chunks_onto : List StoredChunk → List ℕ → List Kept → List StoredChunk
chunks_onto older [] kept = older
chunks_onto older (base ∷ bases) [] = older
chunks_onto older (base ∷ bases) (k ∷ kept) = chunks_onto (chunk_of base k ∷ older) bases kept

abbrev pub table_of : Numbers → List Kept → ℕ → Chunks
table_of bases kept room = record { items = chunks_onto [] bases.items kept; spare = min bases.spare room }

-- at most as many bytes are used as there are
abbrev pub IsKept : Kept → Type 0
IsKept k = k.used ≤ length k.bytes.items

-- as many bases as there are chunks
pub record IsTable (bases : List ℕ) (kept : List Kept) : Type 0 where
  pub pairs : length bases ≡ length kept
  pub used : All IsKept kept

-- the first n numbers are at most the address, and all others are above it
pub record IsSplit (bases : List ℕ) (addr n : ℕ) : Type 0 where
  pub within : n ≤ length bases
  pub low : (k : ℕ) → k < n → slice_index bases k ≤ addr
  pub above : (k : ℕ) → n ≤ k → k < length bases → addr < slice_index bases k

-- some number is at most the address
abbrev pub HasBelow : List ℕ → ℕ → Type 0
HasBelow bases addr = (k : ℕ) × (k < length bases) × (slice_index bases k ≤ addr)

-- the number at this index is the last that is at most the address
pub record IsLastBelow (bases : List ℕ) (addr i : ℕ) : Type 0 where
  pub within : i < length bases
  pub low : slice_index bases i ≤ addr
  pub above : (k : ℕ) → i < k → k < length bases → addr < slice_index bases k

-- What the table returns for an address: the number of the newest chunk that begins at or below it, if that reaches
-- so far.
abbrev pub number_in : ℕ → List StoredChunk → Option ℕ
number_in addr [] = None
number_in addr (c ∷ older) =
    if nat_le c.base addr then (if nat_le addr (c.base + length c.bytes.items) then Some (length older) else None) else number_in addr older
