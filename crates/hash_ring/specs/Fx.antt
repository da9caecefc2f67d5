-- The fixed hash. No other file depends on its values.
use Rattle.std.specs.Prelude.{ℕ, zero, suc, ◌+◌, ◌-◌, ◌*◌, ◌/◌, ◌%◌, ◌^◌, List, take, drop, length, fold, bit_xor, ◌==◌, nat_lt, if◌then◌else◌}
use Rattle.std.specs.Int.{w32, w64, from_le_bytes, rotate_left}

-- the factor of the products
abbrev pub factor : ℕ
factor = 0xf1357aea2e62a9c5

-- the two halves of a product, combined by xor; and those of a product with the factor
abbrev pub crossed : ℕ → ℕ → ℕ
crossed one other = let product = one * other in bit_xor (product % 2 ^ 64) (product / 2 ^ 64)

abbrev pub mixed : ℕ → ℕ
mixed word = crossed word factor

-- a length, spread over the bits of a word
abbrev pub spread : ℕ → ℕ
spread n = n * factor % 2 ^ 64

-- the number of a few bytes, the first byte highest, below 2 ^ 64
abbrev pub number_of : List ℕ → ℕ
number_of bytes = fold (λ n byte. (n * 256 % 2 ^ 64 + byte) % 2 ^ 64) 0 bytes

-- the number of fewer than eight bytes: of all, or of the first four and the last four, which may overlap
abbrev pub short_of : List ℕ → ℕ
short_of content =
    if nat_lt (length content) 4 then number_of content
    else from_le_bytes w32 (take 4 content) + 2 ^ 32 * from_le_bytes w32 (drop (length content - 4) content)

-- the hash of nine to sixteen bytes: the first eight and the last eight, which may overlap, with the length
abbrev pub medium_of : List ℕ → ℕ
medium_of content =
    let n = length content in
    crossed (bit_xor (from_le_bytes w64 (take 8 content)) (spread n)) ((from_le_bytes w64 (drop (n - 8) content) + factor) % 2 ^ 64)

-- a hash with one more word of eight bytes. The factor is added to the word, so that a hash of 0 doesn't stay 0 over
-- words of 0
abbrev pub joined : ℕ → List ℕ → ℕ
joined hash word = mixed (bit_xor hash ((from_le_bytes w64 word + factor) % 2 ^ 64))

-- a hash with this many more words
unfoldable pub folded : ℕ → ℕ → List ℕ → ℕ
folded hash zero bytes = hash
folded hash (suc words) bytes = folded (joined hash (take 8 bytes)) words (drop 8 bytes)

-- the words before the one with the last byte, and then the last eight bytes, which may overlap the word before
abbrev pub long_of : List ℕ → ℕ
long_of content =
    let n = length content in
    joined (folded (spread n) ((n - 1) / 8) content) (drop (n - 8) content)

-- Four bytes are multiplied and rotated, eight are mixed, and any other content is mixed with its length.
unfoldable pub fx_of : List ℕ → ℕ
fx_of content =
    let n = length content in
    if nat_lt 16 n then long_of content
    else (if nat_lt 8 n then medium_of content
    else (if n == 4 then rotate_left w64 (from_le_bytes w32 content * factor % 2 ^ 64) 26
    else (if n == 8 then mixed (from_le_bytes w64 content)
    else mixed (bit_xor (spread n) ((short_of content + factor) % 2 ^ 64)))))
