-- Copies between the parts of a table.
use Rattle.std.specs.Prelude.{◌≡◌, ℕ, ◌+◌, ◌≤◌, ◌<◌, List, length, take, drop, get_or, slice_set}
use Rattle.arena_region.specs.Bytes.{bytes, written_from}
use Rattle.arena_store.specs.declared.table.Kept.{Kept}

-- the item with a list written over its bytes from an index on
abbrev pub kept_with : Kept → ℕ → List ℕ → Kept
kept_with k at list = record k { bytes = bytes (written_from k.bytes.items at list) k.bytes.low }

-- the item at this index is ready from this index of its bytes on, and has n bytes there
pub record HasBytes (kept : List Kept) (i from n : ℕ) : Type 0 where
  pub within : i < length kept
  pub ready : (k : Kept) → k ≡ get_or kept i k → k.bytes.low ≤ from
  pub range : (k : Kept) → k ≡ get_or kept i k → from + n ≤ length k.bytes.items

-- The item at the index j has, from its index `to` on, the n bytes that the one at i had from its index `from` on.
pub record CopiesKept (old new : List Kept) (i j from to n : ℕ) : Type 0 where
  pub source : Kept
  pub target : Kept
  pub at_source : source ≡ get_or old i source
  pub at_target : target ≡ get_or old j target
  pub table : new ≡ slice_set old j (kept_with target to (take n (drop from source.bytes.items)))
