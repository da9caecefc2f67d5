-- The state of an arena, without its bytes.
use Rattle.std.specs.Prelude.{◌≡◌, ℕ, ◌+◌, ◌-◌, ◌%◌, ◌^◌, ◌<◌, ◌≤◌, ◌⊎◌, Bool, true, false, List, [], ◌∷◌, sum, map, IsTrue, ◌&&◌, ◌||◌, ◌==◌, nat_le}
use Rattle.std.specs.List.{list_any}
use Rattle.arena_rules.specs.declared.place.Place.{Place}

-- A chunk has the addresses from base to its data end. Those from the cursor on are used.
pub record Chunk : Type 0 where
  pub base : ℕ
  pub size : ℕ
  pub cursor : ℕ

abbrev pub data_end : Chunk → ℕ
data_end chunk = chunk.base + chunk.size

-- The chunks are in order, newest first.
pub record State : Type 0 where
  pub min_align : ℕ
  pub is_growing : Bool
  pub generation : ℕ
  pub chunks : List Chunk

-- the base, the cursor and the data end of the newest chunk, all 16 if there is none
abbrev pub start_of : List Chunk → ℕ
start_of [] = 16
start_of (newest ∷ older) = newest.base

abbrev pub cursor_of : List Chunk → ℕ
cursor_of [] = 16
cursor_of (newest ∷ older) = newest.cursor

abbrev pub top_of : List Chunk → ℕ
top_of [] = 16
top_of (newest ∷ older) = data_end newest

abbrev pub newest_size : List Chunk → ℕ
newest_size [] = 0
newest_size (newest ∷ older) = newest.size

-- how many addresses are used, and how many bytes the chunks have
abbrev pub used_length : Chunk → ℕ
used_length chunk = data_end chunk - chunk.cursor

abbrev pub used_bytes : State → ℕ
used_bytes state = sum (map used_length state.chunks)

abbrev pub allocated_bytes : State → ℕ
allocated_bytes state = sum (map (λ (c : Chunk). c.size) state.chunks)

-- the n addresses from this one on are in the chunk's used part
abbrev pub is_used_by : ℕ → ℕ → Chunk → Bool
is_used_by addr n chunk = nat_le chunk.cursor addr && nat_le (addr + n) (data_end chunk)

-- the n addresses from this one on are in the used part of one chunk
abbrev pub is_range_used : List Chunk → ℕ → ℕ → Bool
is_range_used chunks addr n = list_any (is_used_by addr n) chunks

abbrev pub is_used : State → ℕ → Bool
is_used state addr = is_range_used state.chunks addr 1

-- two ranges, of m and of n addresses, have none in common
abbrev pub AreApart : ℕ → ℕ → ℕ → ℕ → Type 0
AreApart p m q n = 0 < m → 0 < n → (p + m ≤ q) ⊎ (q + n ≤ p)

-- the newest chunk with another cursor
abbrev pub with_newest_cursor : ℕ → List Chunk → List Chunk
with_newest_cursor p [] = []
with_newest_cursor p (newest ∷ older) = record newest { cursor = p } ∷ older

abbrev pub with_cursor : ℕ → State → State
with_cursor p state = record state { chunks = with_newest_cursor p state.chunks }

-- the lowest address at which the next chunk may begin: at least 48 addresses separate two chunks
abbrev pub floor_of : List Chunk → ℕ
floor_of [] = 4096
floor_of (newest ∷ older) = data_end newest + 48

-- ---- Which states there are

-- the addresses of a place, if it has any, are in the used part of one chunk
abbrev pub is_place_used : State → Place → Bool
is_place_used state place = place.size == 0 || is_range_used state.chunks place.addr place.size

abbrev pub is_min_align : ℕ → Bool
is_min_align n = n == 1 || n == 2 || n == 4 || n == 8 || n == 16

pub record IsChunk (min_align : ℕ) (chunk : Chunk) : Type 0 where
  pub base_aligned : chunk.base % 16 ≡ 0
  pub size_aligned : chunk.size % 16 ≡ 0
  pub size_fits : chunk.size + 48 ≤ 2 ^ 63 - 16
  pub cursor_aligned : chunk.cursor % min_align ≡ 0
  pub cursor_low : chunk.base ≤ chunk.cursor
  pub cursor_high : chunk.cursor ≤ data_end chunk

-- each chunk is valid, and begins at or above the floor above the older ones
abbrev pub AreChunks : ℕ → List Chunk → Type 0
AreChunks min_align [] = Unit {0}
AreChunks min_align (newest ∷ older) = IsChunk min_align newest × (floor_of older ≤ newest.base) × AreChunks min_align older

-- a growing arena's chunks have at least 64 bytes each, and a fixed arena has one chunk, at 4096
abbrev pub FitsKind : Bool → List Chunk → Type 0
FitsKind true [] = Unit {0}
FitsKind true (newest ∷ older) = (64 ≤ newest.size) × FitsKind true older
FitsKind false [] = ⊥
FitsKind false (newest ∷ []) = newest.base ≡ 4096
FitsKind false (newest ∷ (next ∷ older)) = ⊥

pub record IsValid (state : State) : Type 0 where
  pub min_align : IsTrue (is_min_align state.min_align)
  pub chunks : AreChunks state.min_align state.chunks
  pub top : floor_of state.chunks ≤ 2 ^ 64 - 1
  pub kind : FitsKind state.is_growing state.chunks
  pub generation : state.generation ≤ 2 ^ 64 - 1
