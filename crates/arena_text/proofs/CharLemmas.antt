-- Characters as UTF-8, byte by byte.
use Rattle.std.proofs.Common.{◌≡◌, add-one, ◌≢◌, ℕ, ◌+◌, ◌/◌, ◌%◌, ◌<◌, List, [], ◌∷◌, length, get_or, take, set, replicate, arith}
use Rattle.std.proofs.lemmas.Bool.Decides.{nat_tests}
use Rattle.std.proofs.lemmas.Grind.{common_steps}
use Rattle.std.proofs.lemmas.List.{set_split, nil_from_length}
use Rattle.std.proofs.lemmas.Str.{IsUtf8-nil, IsUtf8-encode, IsUtf8-append, IsUtf8-take, IsUtf8-drop, IsUtf8-from_ascii, IsCharBoundary-after_ascii}
use Rattle.std.specs.Str.{IsUtf8}
use Rattle.std.specs.Char.{encode_utf8, len_utf8}

-- ---- The bytes of a character, by their number

pub one : (c : ℕ) → len_utf8 c ≡ 1 → encode_utf8 c ≡ c ∷ []
unfolding encode_utf8
one c long = grind (arith, nat_tests)

pub two : (c : ℕ) → len_utf8 c ≡ 2 → encode_utf8 c ≡ (192 + c / 64) ∷ (128 + c % 64) ∷ []
unfolding encode_utf8
two c long = grind (arith, nat_tests)

pub three : (c : ℕ) → len_utf8 c ≡ 3 → encode_utf8 c ≡ (224 + c / 4096) ∷ (128 + c / 64 % 64) ∷ (128 + c % 64) ∷ []
unfolding encode_utf8
three c long = grind (arith, nat_tests)

pub four : (c : ℕ) → len_utf8 c ≢ 1 → len_utf8 c ≢ 2 → len_utf8 c ≢ 3
    → encode_utf8 c ≡ (240 + c / 262144) ∷ (128 + c / 4096 % 64) ∷ (128 + c / 64 % 64) ∷ (128 + c % 64) ∷ []
unfolding encode_utf8
four c not_1 not_2 not_3 = grind (arith, nat_tests)

-- ---- Places of one to four bytes, each of which is set

pub set_one : (old : List ℕ) (a : ℕ) → length old ≡ 1 → set old 0 a ≡ a ∷ []
set_one (x ∷ old) a e = grind (arith, nil_from_length {X = ℕ})
set_one [] a e = absurd (omega arith)

pub set_two : (old : List ℕ) (a b : ℕ) → length old ≡ 2 → set (set old 0 a) 1 b ≡ a ∷ b ∷ []
set_two (x ∷ y ∷ old) a b e = grind (arith, nil_from_length {X = ℕ})
set_two old a b e = absurd (grind arith)

pub set_three : (old : List ℕ) (a b c : ℕ) → length old ≡ 3 → set (set (set old 0 a) 1 b) 2 c ≡ a ∷ b ∷ c ∷ []
set_three (x ∷ y ∷ z ∷ old) a b c e = grind (arith, nil_from_length {X = ℕ})
set_three old a b c e = absurd (grind arith)

pub set_four : (old : List ℕ) (a b c d : ℕ) → length old ≡ 4
    → set (set (set (set old 0 a) 1 b) 2 c) 3 d ≡ a ∷ b ∷ c ∷ d ∷ []
set_four (x ∷ y ∷ z ∷ u ∷ old) a b c d e = grind (arith, nil_from_length {X = ℕ})
set_four old a b c d e = absurd (grind arith)

pub ruleset chars = (one, two, three, four, set_one, set_two, set_three, set_four)

-- ---- What is UTF-8

-- ASCII bytes are.
pub ascii_utf8 : (byte n : ℕ) → byte < 128 → IsUtf8 (replicate n byte)
ascii_utf8 byte n small = IsUtf8-from_ascii (replicate n byte) (λ i. grind (arith, common_steps))

-- So is a text in which one ASCII byte is replaced by another.
pub set_utf8 : (bytes : List ℕ) (i byte : ℕ) → IsUtf8 bytes → i < length bytes → get_or bytes i 0 < 128 → byte < 128
    → IsUtf8 (set bytes i byte)
set_utf8 bytes i byte text inside ascii small =
    let front = IsUtf8-take bytes i text (omega arith, λ below many. absurd (omega arith)) in
    let back = IsUtf8-drop bytes (i + 1) text (IsCharBoundary-after_ascii bytes i text inside ascii) in
    let rest = IsUtf8-append (byte ∷ []) _ (ascii_utf8 byte 1 small) back in
    rw (set_split bytes i byte inside, ← add-one) (IsUtf8-append (take i bytes) _ front rest)

pub ruleset utf8 = (IsUtf8-nil, IsUtf8-encode, IsUtf8-append, ascii_utf8, set_utf8)
