-- Byte forms of signed numbers, of bool and of char.
use Rattle.std.specs.Prelude.{ℕ, ℤ, Bool, true, false, List, [], ◌∷◌, slice_index, not, ◌==◌, nat_lt, nat_le, ◌&&◌, ◌||◌, if◌then◌else◌}
use Rattle.std.specs.Int.{Width, to_le_bytes, from_le_bytes, cast_signed, cast_unsigned}

-- a signed number has the bytes of its two's complement
abbrev pub signed_bytes : Width → ℤ → List ℕ
signed_bytes w z = to_le_bytes w (cast_unsigned w z)

abbrev pub signed_of : Width → List ℕ → ℤ
signed_of w bs = cast_signed w (from_le_bytes w bs)

-- a bool is 0 or 1
abbrev pub bool_bytes : Bool → List ℕ
bool_bytes true = 1 ∷ []
bool_bytes false = 0 ∷ []

-- any byte but 0 is true
abbrev pub bool_of : List ℕ → Bool
bool_of bs = not (slice_index bs 0 == 0)

-- a number that is no scalar value decodes to U+0000
abbrev pub scalar_or_0 : ℕ → ℕ
scalar_or_0 n = if nat_lt n 0xD800 || (nat_le 0xE000 n && nat_lt n 0x11_0000) then n else 0
