-- The printed form of a set.
use Rattle.std.specs.Prelude.{ℕ, List, ◌++◌, ◌==◌, codes}
use Rattle.std.specs.Int.{bit_at}
pub use Rattle.arena_rules.specs.PrintedBits.{has_byte}
unfoldable pub use Rattle.arena_rules.specs.PrintedBits.{highest, digits, lower, printed}
use Rattle.arena_bits.specs.Bits.{Set}

-- the bits of a number
abbrev pub bits_in : ℕ → Set
bits_in x n = bit_at x n == 1

-- the printed form in quotes, inside `BitSet(` and `)`
abbrev pub debugged : ℕ → Set → List ℕ
debugged words set = codes "BitSet(\"" ++ printed words set ++ codes "\")"
