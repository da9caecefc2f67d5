-- What a growing arena asks for, if its chunks are wherever a program has them.
use Rattle.std.specs.Prelude.{◌≡◌, ℕ, ◌+◌, ◌%◌, ◌^◌, ◌-◌, ◌<◌, Bool, true, false, ◌&&◌, ◌==◌, nat_lt, nat_le, IsTrue, IsSome, Option, List, map, slice_get}
use Rattle.std.specs.Option.{option_map}
use Rattle.arena_rules.specs.Rounding.{is_layout}
use Rattle.arena_rules.specs.State.{is_min_align}
use Rattle.arena_rules.specs.Search.{asked_above, chunk_align, place_below}
use Rattle.arena_cursor.specs.declared.growing.Chunk.{Chunk}

-- the data sizes of chunks
abbrev pub sizes_of : List (ℕ × ℕ) → List ℕ
sizes_of chunks = map (λ (e : ℕ × ℕ). e.1) chunks

-- The data size that a growing arena asks for after this many refusals, if it asks once more, for a block that has no
-- place in its newest chunk, of this size. The floor is 0: no address of the arena's chunks limits the next one.
abbrev pub size_after : ℕ → ℕ → ℕ → ℕ → Option ℕ
size_after newest size align refused = option_map (λ (e : ℕ × ℕ). e.1) (slice_get (asked_above 0 newest size align) refused)

-- A request for a chunk: 48 bytes more than its data, at the alignment of a chunk for the block. The two are a layout,
-- the data ends at a multiple of 16, and the block has a place in the chunk, at whichever aligned address that begins,
-- with each least alignment.
pub record IsRequest (size align : ℕ) (chunk : Chunk) : Type 0 where
  pub more : chunk.bytes ≡ chunk.size + 48
  pub unit : chunk.align ≡ chunk_align align
  pub layout : IsTrue (is_layout chunk.bytes chunk.align)
  pub whole : chunk.size % 16 ≡ 0
  pub holds : (base m : ℕ) → 0 < base → base % chunk.align ≡ 0 → IsTrue (is_min_align m)
      → IsSome (place_below base (base + chunk.size) size align m)

-- The code of a request: 2 without a layout, 4 for a number out of range, 1 if there is no request, 0 if there is one.
abbrev pub IsRequestCode : Bool → Bool → Bool → ℕ → Type 0
IsRequestCode false within some code = code ≡ 2
IsRequestCode true false some code = code ≡ 4
IsRequestCode true true false code = code ≡ 1
IsRequestCode true true true code = code ≡ 0

-- this many bytes from this base on are addresses, 0 is none of them, and they end at a multiple of the least alignment
abbrev pub is_region : ℕ → ℕ → ℕ → Bool
is_region base size m = nat_lt 0 base && nat_le (base + size) (2 ^ 64 - 1) && is_min_align m && (base + size) % m == 0
