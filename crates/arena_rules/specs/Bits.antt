-- Sets of numbers, the values of bit sets.
use Rattle.std.specs.Prelude.{ℕ, ◌+◌, ◌-◌, ◌/◌, List, Bool, false, not, ◌&&◌, ◌||◌, ◌==◌, nat_lt}
use Rattle.std.specs.List.{filter, range_with_len}

-- a set of numbers: which are in it
abbrev pub Set : Type 0
Set = ℕ → Bool

-- no number
abbrev pub nothing : Set
nothing n = false

-- a set with one more number, and one without a number
abbrev pub with_bit : Set → ℕ → Set
with_bit set bit n = set n || n == bit

abbrev pub without_bit : Set → ℕ → Set
without_bit set bit n = set n && not (n == bit)

-- the numbers of either of two sets
abbrev pub joined : Set → Set → Set
joined one other n = one n || other n

-- the numbers of a set that are below a limit
abbrev pub below : ℕ → Set → Set
below limit set n = nat_lt n limit && set n

-- the members of a set at or above one number and below another, ascending
unfoldable pub members : Set → ℕ → ℕ → List ℕ
members set from to = filter set (range_with_len from (to - from))

-- how many 64-bit words hold this many bits
abbrev pub words_for : ℕ → ℕ
words_for bits = (bits + 63) / 64
