-- Printed forms: the bytes of a set, and their digits.
use Rattle.std.proofs.Common.{◌≡◌, ℕ, zero, suc, ◌+◌, ◌-◌, ◌*◌, ◌/◌, ◌%◌, ◌^◌, ◌<◌, ◌≤◌, List, [], ◌∷◌, ◌++◌, length, false, not, eqb, cond, get_or, take, drop, ap, ◌∙◌, sym, arith, refl, append_assoc, add-one, zero-add, w8, w64}
use Rattle.std.specs.Prelude.{bit_and, ◌||◌}
use Rattle.std.specs.Int.{bit_at, byte_at, bytes_low_first, from_le_bytes}
use Rattle.std.specs.List.{list_any, range_with_len}
use Rattle.std.proofs.lemmas.Bool.Decides.{nat_tests}
use Rattle.std.proofs.lemmas.Grind.{common_steps}
use Rattle.std.proofs.lemmas.List.{get_or_past, length-take, length-drop}
use Rattle.std.proofs.lemmas.List.Folds.{list_any_at}
use Rattle.std.proofs.lemmas.List.FromFn.{get_or-range_with_len}
use Rattle.std.proofs.lemmas.Nat.{pow-add, shr-shr, shr_split, le_bytes_8}
use Rattle.std.proofs.Math.Nat.{pow-suc}
use Rattle.std.proofs.lemmas.Nat.Bits.{shr_and_one, bit_at-lt, bit_at-trailing_zeros, bit_at_cat_low}
use Rattle.arena_bits.specs.Bits.{Set, bits_of}
use Rattle.arena_bits.specs.Walks.{words_in}
use Rattle.arena_bits.specs.Printed.{bits_in, has_byte, highest, digits, lower, printed}
use Rattle.arena_bits.proofs.WordLemmas.{word-is}

-- ---- The bytes of a number

-- a byte has as many values as eight bits
powers : (k : ℕ) → 256 ^ k ≡ 2 ^ (8 * k)
powers zero = refl
powers (suc k) = let e : 8 * suc k ≡ 8 * k + 8 = omega arith in rw (e, pow-add 2 (8 * k) 8) (omega (arith, pow-suc 256 k, powers k))

-- a byte as shifts and masks give it
byte_is : (m n : ℕ) → byte_at m n ≡ n / 2 ^ (8 * m) % 2 ^ 8
byte_is m n = grind (arith, nat_tests, powers)

-- A byte has eight bits of its number.
byte_bits : (m n j : ℕ) → j < 8 → bit_at (byte_at m n) j ≡ bit_at n (8 * m + j)
byte_bits m n j low =
    let high = n / 2 ^ (8 * m) in
    ap (λ b. bit_at b j) (byte_is m n) ∙ sym (bit_at_cat_low (high / 2 ^ 8) 8 (high % 2 ^ 8) j low)
    ∙ ap (λ x. bit_at x j) (shr_split high 8) ∙ ap (λ x. x % 2) (shr-shr n (8 * m) j)

-- the bytes of a number, listed from the lowest on
byte_listed : (i k m n : ℕ) → m < k → get_or (bytes_low_first i k n) m 0 ≡ byte_at (i + m) n
byte_listed i zero m n below = absurd (omega arith)
byte_listed i (suc k) zero n below = ap (λ j. byte_at j n) (omega arith)
byte_listed i (suc k) (suc m) n below = byte_listed (suc i) k m n (omega arith) ∙ ap (λ j. byte_at j n) (omega arith)

-- So a word has the bits of its bytes.
word_bits : (own : List ℕ) (m j : ℕ) → length own ≡ 8 → ((i : ℕ) → get_or own i 0 < 256) → m < 8 → j < 8
    → bit_at (from_le_bytes w64 own) (8 * m + j) ≡ bit_at (get_or own m 0) j
word_bits own m j long small inside low =
    let word = from_le_bytes w64 own in
    sym (byte_bits m word j low) ∙ ap (λ i. bit_at (byte_at i word) j) (sym (zero-add m))
    ∙ ap (λ b. bit_at b j) (sym (byte_listed 0 8 m word inside)) ∙ ap (λ bs. bit_at (get_or bs m 0) j) (le_bytes_8 own word long small refl)

-- ---- The bytes of a set

-- a byte isn't 0 if and only if it has a bit
any_bit : (b : ℕ) → b < 256 → list_any (bits_in b) (range_with_len 0 8) ≡ not (eqb b 0)
any_bit b small = grind (arith, nat_tests, bit_at-trailing_zeros, w8, get_or-range_with_len, zero-add, list_any_at, eqb)

-- sets that have the same numbers have the same bytes and digits
any_same : (one other : Set) (from n : ℕ) → ((j : ℕ) → j < from + n → one j ≡ other j)
    → list_any one (range_with_len from n) ≡ list_any other (range_with_len from n)
any_same one other from zero same = refl
any_same one other from (suc n) same = λ p.
    same from (omega arith) p || any_same one other (from + 1) n (λ j below. same j (omega arith)) p

digits_same : (one other : Set) (from n : ℕ) → ((j : ℕ) → j < n → one j ≡ other (from + j)) → digits one 0 n ≡ digits other from n
unfolding digits
digits_same one other from zero same = refl
digits_same one other from (suc n) same = λ p.
    cond ((ap one (zero-add n) ∙ same n (omega arith)) p) 49 48 ∷ digits_same one other from n (λ j below. same j (omega arith)) p

module _ (bytes : List ℕ) (small : (i : ℕ) → get_or bytes i 0 < 256) (whole : length bytes % 8 ≡ 0) where
  abbrev set : Set
  set = bits_of (words_in bytes)

  -- the bytes of a part
  own_byte : (n w i : ℕ) → i < n → get_or (take n (drop w bytes)) i 0 ≡ get_or bytes (w + i) 0
  own_byte n w i below = grind (arith, common_steps)

  own_small : (n w i : ℕ) → get_or (take n (drop w bytes)) i 0 < 256
  own_small n w i = grind (arith, common_steps, get_or_past (take n (drop w bytes)) i 0, small (w + i))

  -- Byte k has the bits of eight numbers from 8 * k on.
  byte_bit : (k j : ℕ) → k < length bytes → j < 8 → set (8 * k + j) ≡ bits_in (get_or bytes k 0) j
  unfolding bits_of
  byte_bit k j within low =
      let word : (8 * k + j) / 64 ≡ k / 8 = omega arith in
      let bit : (8 * k + j) % 64 ≡ 8 * (k % 8) + j = omega arith in
      let own : List ℕ = take 8 (drop (k / 8 * 8) bytes) in
      let at : k / 8 * 8 + k % 8 ≡ k = omega arith in
      let long : length own ≡ 8 = omega (arith, length-take 8 (drop (k / 8 * 8) bytes), length-drop (k / 8 * 8) bytes) in
      let there : get_or own (k % 8) 0 ≡ get_or bytes k 0 =
      own_byte 8 (k / 8 * 8) (k % 8) (omega arith) ∙ ap (λ i. get_or bytes i 0) at in
      rw (word, bit, word-is (length bytes / 8) bytes (k / 8) (omega arith))
      (ap (λ b. eqb b 1) (word_bits own (k % 8) j long (own_small 8 (k / 8 * 8)) (omega arith) low ∙ ap (λ b. bit_at b j) there))

  -- So it isn't 0 if and only if one of them is in the set,
  byte_tested : (k : ℕ) → k < length bytes → has_byte set k ≡ not (eqb (get_or bytes k 0) 0)
  byte_tested k within = grind (arith, nat_tests, any_same, get_or, byte_bit, any_bit)

  -- and its digits are theirs.
  pub byte_digits : (k : ℕ) → k < length bytes → digits (bits_in (get_or bytes k 0)) 0 8 ≡ digits set (8 * k) 8
  byte_digits k within = digits_same (bits_in (get_or bytes k 0)) set (8 * k) 8 (λ j low. sym (byte_bit k j within low))

  -- The highest byte that isn't 0 is the last or below it.
  pub highest_is : (m : ℕ) → 0 < m → m ≤ length bytes
      → highest set m ≡ cond (not (eqb (get_or bytes (m - 1) 0) 0)) (m - 1) (highest set (m - 1))
  unfolding highest
  highest_is m some within = grind (arith, nat_tests, cond, byte_tested)

-- ---- What is printed

-- one more digit of a byte
pub digit_more : (text : List ℕ) (byte n m : ℕ) → n + 1 ≡ m
    → (text ++ (48 + bit_and (byte / 2 ^ n) 1) ∷ []) ++ digits (bits_in byte) 0 n ≡ text ++ digits (bits_in byte) 0 m
unfolding digits
digit_more text byte n m next =
    rw (← next, add-one n, zero-add n, shr_and_one byte n, digit (bit_at byte n) (bit_at-lt byte n))
    (append_assoc text _ (digits (bits_in byte) 0 n))
  where
    digit : (b : ℕ) → b < 2 → 48 + b ≡ cond (eqb b 1) 49 48
    digit b small = grind (arith, nat_tests)

-- one more byte
pub lower_more : (text : List ℕ) (set : Set) (k m : ℕ) → k + 1 ≡ m
    → ((text ++ 95 ∷ []) ++ digits set (8 * k) 8) ++ lower set k ≡ text ++ lower set m
unfolding lower
lower_more text set k m next = rw (← next, add-one k) (simp append_assoc)

-- some words: the digits of the highest byte, and then the others
pub printed_some : (text : List ℕ) (set : Set) (words n top : ℕ) → 0 < words → n ≡ 8 * words → top ≡ highest set n
    → (text ++ digits set (8 * top) 8) ++ lower set top ≡ text ++ printed words set
unfolding printed
printed_some text set words n top some all is =
    let test : eqb words 0 ≡ false = grind (arith, nat_tests) in rw (append_assoc, is, all, test) refl
