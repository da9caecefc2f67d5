-- Multiples of an alignment, and layouts.
use Rattle.std.specs.Prelude.{ℕ, zero, suc, ◌+◌, ◌-◌, ◌*◌, ◌/◌, ◌^◌, Bool, false, ◌&&◌, ◌||◌, ◌==◌, nat_le}

-- the greatest multiple of d at or below n
unfoldable pub down : ℕ → ℕ → ℕ
down n d = n / d * d

-- the least multiple of d at or above n
unfoldable pub up : ℕ → ℕ → ℕ
up n d = (n + (d - 1)) / d * d

-- n is one of the k smallest powers of two
unfoldable pub is_power_among : ℕ → ℕ → Bool
is_power_among zero n = false
is_power_among (suc k) n = n == 2 ^ k || is_power_among k n

-- n is a power of two below 2 ^ 64
abbrev pub is_power : ℕ → Bool
is_power n = is_power_among 64 n

-- A layout is valid: the alignment is a power of two, and the padded size is at most 2 ^ 63 - 1.
abbrev pub is_layout : ℕ → ℕ → Bool
is_layout size align = is_power align && nat_le (up size align) (2 ^ 63 - 1)
