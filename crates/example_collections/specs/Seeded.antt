-- Hashes with a seed.
use Rattle.std.specs.Prelude.{ℕ, ◌+◌, ◌-◌, ◌*◌, ◌%◌, ◌^◌, List, fold}
use Rattle.std.specs.Int.{w64, rotate_left}

-- 2 ^ 61 - 1
abbrev pub prime : ℕ
prime = 0x1fffffffffffffff

-- the value at a seed of the polynomial whose first coefficient is 1 and whose others are these bytes
abbrev pub at_seed : ℕ → List ℕ → ℕ
at_seed seed bytes = fold (λ n byte. (n * seed + byte) % prime) 1 bytes

-- that value, spread over 64 bits by a one-to-one map
abbrev pub seeded : ℕ → List ℕ → ℕ
seeded seed bytes = rotate_left w64 (at_seed seed bytes * 0x9e3779b97f4a7c15 % 2 ^ 64) 26
