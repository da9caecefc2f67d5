-- The printed form of a set of numbers.
use Rattle.std.specs.Prelude.{ℕ, zero, suc, ◌+◌, ◌*◌, List, [], ◌∷◌, ◌++◌, Bool, ◌==◌, if◌then◌else◌}
use Rattle.std.specs.List.{list_any, range_with_len}
use Rattle.arena_rules.specs.Bits.{Set}

-- whether a byte of the set isn't zero: byte k is for the numbers 8 * k to 8 * k + 7
abbrev pub has_byte : Set → ℕ → Bool
has_byte set k = list_any (λ j. set (8 * k + j)) (range_with_len 0 8)

-- the highest of this many bytes that isn't zero; byte 0 if all are zero
unfoldable pub highest : Set → ℕ → ℕ
highest set zero = 0
highest set (suc k) = if has_byte set k then k else highest set k

-- binary digits of the n numbers from this one on, the highest first
unfoldable pub digits : Set → ℕ → ℕ → List ℕ
digits set from zero = []
digits set from (suc n) = (if set (from + n) then 49 else 48) ∷ digits set from n

-- a `_` and the digits of each of the k lowest bytes, from the highest of them down
unfoldable pub lower : Set → ℕ → List ℕ
lower set zero = []
lower set (suc k) = 95 ∷ digits set (8 * k) 8 ++ lower set k

-- A set of this many words: from the highest byte that isn't zero down to byte 0. Zero words have no digits.
unfoldable pub printed : ℕ → Set → List ℕ
printed words set = if words == 0 then [] else (let top = highest set (8 * words) in digits set (8 * top) 8 ++ lower set top)
