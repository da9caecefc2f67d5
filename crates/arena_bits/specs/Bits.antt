-- The words of bits that sets of numbers are kept as.
use Rattle.std.specs.Prelude.{◌≡◌, ℕ, ◌/◌, ◌%◌, List, slice_index, Bool, ◌==◌, IsTrue}
use Rattle.std.specs.Bool.{MatchBool}
use Rattle.std.specs.Int.{bit_at}
pub use Rattle.arena_rules.specs.Bits.{Set, nothing, with_bit, without_bit, joined, below, words_for}
unfoldable pub use Rattle.arena_rules.specs.Bits.{members}

-- Whether a set is empty: it is, or there is a number in it.
abbrev pub TellsEmpty : Bool → Set → Type 0
TellsEmpty is_empty set = MatchBool is_empty (set ≡ nothing) ((n : ℕ) × IsTrue (set n))

-- The set of some words: a number is in it if its bit is 1 in the word that has it. No number past the last word is in
-- it.
unfoldable pub bits_of : List ℕ → Set
bits_of words n = bit_at (slice_index words (n / 64)) (n % 64) == 1
