-- How numbers and bytes are written in lines, and the lines of a text.
use Rattle.std.specs.Prelude.{ℕ, zero, suc, ◌+◌, ◌/◌, ◌%◌, ◌^◌, ◌<◌, ◌==◌, nat_lt, true, false, if◌then◌else◌, List, [], ◌∷◌, ◌++◌, codes}
use Rattle.std.specs.List.{slice_split, flat_map}

-- the decimal digits of n, up to a limit. The test is an `elim`, so that no more digits are computed than there are.
unfoldable pub digits : ℕ → ℕ → List ℕ
digits zero n = []
digits (suc more) n = elim (nat_lt n 10) [ true ↦ (48 + n) ∷ [] | false ↦ digits more (n / 10) ++ (48 + n % 10) ∷ [] ]

-- a number: its decimal digits, the first of which isn't 0 where there are more
unfoldable pub number : ℕ → List ℕ
number n = digits (suc n) n

-- a hexadecimal digit in lower case
abbrev pub hex_digit : ℕ → ℕ
hex_digit d = if nat_lt d 10 then 48 + d else 87 + d

abbrev pub hex_pair : ℕ → List ℕ
hex_pair b = hex_digit (b / 16) ∷ hex_digit (b % 16) ∷ []

-- HEX: two digits for each byte, or a dash for no byte
abbrev pub hex : List ℕ → List ℕ
hex [] = codes "-"
hex (b ∷ bytes) = flat_map hex_pair (b ∷ bytes)

-- each number after a space
abbrev pub fields : List ℕ → List ℕ
fields [] = []
fields (n ∷ ns) = 32 ∷ number n ++ fields ns

-- a line with the line feed that ends it
abbrev pub with_feed : List ℕ → List ℕ
with_feed line = line ++ 10 ∷ []

abbrev pub IsByte : ℕ → Type 0
IsByte b = b < 2 ^ 8

-- the parts between line feeds; the last is empty if the bytes end with a line feed
abbrev pub lines_of : List ℕ → List (List ℕ)
lines_of bytes = slice_split (λ b. b == 10) bytes
