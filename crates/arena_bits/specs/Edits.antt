-- Changes of words in place.
use Rattle.std.specs.Prelude.{◌≡◌, ℕ, ◌+◌, ◌*◌, ◌<◌, ◌≤◌, List, length, slice_index, bit_or}
use Rattle.std.specs.Int.{from_le_bytes, w64}
use Rattle.arena_bits.specs.Walks.{words_in}

-- a word's bytes become those of a function of the word
pub record ChangesWord (f : ℕ → ℕ) (old new : List ℕ) : Type 0 where
  pub length : length new ≡ 8
  pub word : from_le_bytes w64 new ≡ f (from_le_bytes w64 old)

-- n words from an index on
pub record IsRow (n : ℕ) (row words : List ℕ) (i : ℕ) : Type 0 where
  pub length : length row ≡ n
  pub are : (k : ℕ) → k < n → slice_index row k ≡ slice_index words (i + k)

-- The words from one index up to another are joined with those of another list, and no other word changes.
pub record JoinsWords (from to : ℕ) (old others new : List ℕ) : Type 0 where
  pub joined : (k : ℕ) → from ≤ k → k < to → slice_index new k ≡ bit_or (slice_index old k) (slice_index others k)
  pub before : (k : ℕ) → k < from → slice_index new k ≡ slice_index old k
  pub behind : (k : ℕ) → to ≤ k → slice_index new k ≡ slice_index old k

-- the bytes of n words become those of the words joined with these
pub record JoinsRow (n : ℕ) (row old new : List ℕ) : Type 0 where
  pub length : length new ≡ n * 8
  pub words : JoinsWords 0 n (words_in old) row (words_in new)
