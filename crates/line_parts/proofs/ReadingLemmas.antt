-- Numbers that are read at the front of bytes.
use Rattle.std.proofs.Common.{◌≡◌, ℕ, ◌+◌, ◌-◌, ◌*◌, ◌^◌, ◌<◌, ◌≤◌, Bool, true, false, IsTrue, List, [], ◌∷◌, ◌++◌, length, get_or, take, drop, Option, Some, None, refl, sym, ap, ◌∙◌, arith, append_assoc, length-append, drop-cons, add-one}
use Rattle.std.specs.Prelude.{if◌then◌else◌, ◌/◌, ◌%◌, ◌==◌}
use Rattle.std.specs.Char.{is_ascii_digit}
use Rattle.std.proofs.lemmas.Fmt.{decimal_digit, decimal_step}
use Rattle.std.proofs.lemmas.List.{take_rest, get_or_append_left, append-nil}
use Rattle.std.proofs.Math.ListN.{drop_of_length-le}
use Rattle.std.proofs.Math.Seq.{drop-length}
use Rattle.std.proofs.lemmas.Bool.Decides.{nat_tests}
use Rattle.line_parts.specs.Numbers.{number}
use Rattle.line_parts.proofs.NumberLemmas.{number-decimal, number_nonempty, first_number, read_front, read_number, read_number_on, Stops}
use Rattle.std.proofs.lemmas.Option.{none-some, some_pair_parts}
use Rattle.line_parts.specs.Reads.{is_word_end, ReadsFront, IsNumber}

-- a number stops where a word ends
pub stops : (rest : List ℕ) → IsTrue (is_word_end rest) → Stops rest
stops [] e = tt
stops (c ∷ cs) e = grind (arith, nat_tests)

-- ---- Numbers

-- what was read is the number at the front, if it is at most this
abbrev pub ReadsNumber : ℕ → List ℕ → Option (ℕ × List ℕ) → Type 0
ReadsNumber max bytes read = ReadsFront (λ n. n ≤ max) number bytes read

-- a number at the front is what its digits add up to
front_read : (bytes rest : List ℕ) (n : ℕ) → IsTrue (is_word_end rest) → bytes ≡ number n ++ rest → read_front 0 bytes ≡ (n, rest)
front_read bytes rest n ends e = ap (read_front 0) e ∙ read_number n rest (stops rest ends)

-- a number below 10 is one digit
number-digit : (n : ℕ) → n < 10 → number n ≡ (48 + n) ∷ []
number-digit n h = number-decimal n (omega arith) ∙ decimal_digit n h

pub digit_number : (c : ℕ) → is_ascii_digit c ≡ true → number (c - 48) ≡ c ∷ []
digit_number c digit =
    let low : (48 ≤ c) × (c < 58) = (grind (arith, nat_tests), grind (arith, nat_tests)) in
    let same : 48 + (c - 48) ≡ c = omega arith in
    rw same at (number-digit (c - 48) (omega arith))

-- no number without a byte
pub number_of_none : (max : ℕ) (bytes : List ℕ) → length bytes ≡ 0 → ReadsNumber max bytes None
number_of_none max bytes none = record {
  found = tt;
  only = λ n rest within ends e. absurd (omega (arith, ap length e, length-append (number n) rest, number_nonempty n));
}

-- a digit 0 in front is the number 0
pub number_zero : (max : ℕ) (cs : List ℕ) → ReadsNumber max (48 ∷ cs) (Some (0, cs))
number_zero max cs = record {
  found = (omega arith, ap (λ ds. ds ++ cs) (sym (number-digit 0 (omega arith))));
  only = λ n rest within ends e.
      let none : n ≡ 0 = grind (arith, first_number n, ap (λ ds. get_or ds 0 0) e, get_or_append_left (number n) rest 0 0 (number_nonempty n)) in
      let same : 48 ∷ cs ≡ 48 ∷ rest = e ∙ ap (λ m. number m ++ rest) none ∙ ap (λ ds. ds ++ rest) (number-digit 0 (omega arith)) in
      cc;
}

-- no number where the first byte is no digit
pub number_no_digit : (max c : ℕ) (cs : List ℕ) → is_ascii_digit c ≡ false → ReadsNumber max (c ∷ cs) None
number_no_digit max c cs other = record {
  found = tt;
  only = λ n rest within ends e.
      let none : read_front 0 (c ∷ cs) ≡ (0, c ∷ cs) = rw other in
      let left : c ∷ cs ≡ rest = ap (λ (f : ℕ × List ℕ). f.1) (sym none ∙ front_read (c ∷ cs) rest n ends e) in
      absurd (omega (arith, ap length left, ap length e, length-append (number n) rest, number_nonempty n));
}

-- ---- Digits one after another

-- a digit after a number that isn't 0
number_longer : (n c : ℕ) → 0 < n → is_ascii_digit c ≡ true → n * 10 + (c - 48) < 2 ^ 64 → number (n * 10 + (c - 48)) ≡ number n ++ c ∷ []
number_longer n c some digit h =
    let low : (48 ≤ c) × (c < 58) = (grind (arith, nat_tests), grind (arith, nat_tests)) in
    let front : (n * 10 + (c - 48)) / 10 ≡ n = omega arith in
    let last : 48 + (n * 10 + (c - 48)) % 10 ≡ c = omega arith in
    number-decimal (n * 10 + (c - 48)) h ∙ decimal_step (n * 10 + (c - 48)) (omega arith) h
    ∙ rw (front, last) (ap (λ ds. ds ++ c ∷ []) (sym (number-decimal n (omega arith))))

-- more digits make no smaller number
no_smaller : (n : ℕ) (cs : List ℕ) → n ≤ (read_front n cs).0
no_smaller n [] = omega arith
no_smaller n (c ∷ cs) = elim (is_ascii_digit c) as (λ t. n ≤ (if t then read_front (n * 10 + (c - 48)) cs else (n, c ∷ cs)).0) [
  | true ↦ omega (arith, no_smaller (n * 10 + (c - 48)) cs)
  | false ↦ omega arith
]

-- the number, with the digits that it is read further by, is spelled alike
spelled : (n : ℕ) (cs : List ℕ) → 0 < n → (read_front n cs).0 < 2 ^ 64 → number n ++ cs ≡ number (read_front n cs).0 ++ (read_front n cs).1
spelled n [] some small = refl
spelled n (c ∷ cs) some small = by (is_ascii_digit c) refl (spelled (n * 10 + (c - 48)) cs (omega arith)) small
  where
    by : (t : Bool) → is_ascii_digit c ≡ t
        → ((read_front (n * 10 + (c - 48)) cs).0 < 2 ^ 64
        → number (n * 10 + (c - 48)) ++ cs ≡ number (read_front (n * 10 + (c - 48)) cs).0 ++ (read_front (n * 10 + (c - 48)) cs).1)
        → (if t then read_front (n * 10 + (c - 48)) cs else (n, c ∷ cs)).0 < 2 ^ 64
        → number n ++ c ∷ cs ≡ number (if t then read_front (n * 10 + (c - 48)) cs else (n, c ∷ cs)).0
        ++ (if t then read_front (n * 10 + (c - 48)) cs else (n, c ∷ cs)).1
    by false is more fits = refl
    by true is more fits = sym (append_assoc (number n) (c ∷ []) cs)
        ∙ ap (λ ds. ds ++ cs) (sym (number_longer n c some is (omega (arith, no_smaller (n * 10 + (c - 48)) cs)))) ∙ more fits

-- what n's digits and those of the bytes are read as
pub digits_read : (max n m : ℕ) (bytes left : List ℕ) → max < 2 ^ 64 → 0 < n → m ≤ max → read_front n bytes ≡ (m, left)
    → ReadsNumber max (number n ++ bytes) (Some (m, left))
digits_read max n m bytes left fits some within is = record {
  found = (within, rw is at (spelled n bytes some (rw is (omega arith))));
  only = λ a rest _ ends e. ap Some (sym is ∙ sym (read_number_on n bytes) ∙ front_read (number n ++ bytes) rest a ends e);
}

-- from the byte at this index on
read_at : (bytes : List ℕ) (m i : ℕ) → i < length bytes → read_front m (drop i bytes) ≡ (if is_ascii_digit (get_or bytes i 0)
    then read_front (m * 10 + (get_or bytes i 0 - 48)) (drop (i + 1) bytes) else (m, drop i bytes))
read_at bytes m i h =
    let first : drop i bytes ≡ get_or bytes i 0 ∷ drop (i + 1) bytes = rw add-one (drop-cons bytes i 0 h) in
    rw first refl

-- the digit at this index is taken
pub digit_taken : (bytes : List ℕ) (m i : ℕ) → i < length bytes → is_ascii_digit (get_or bytes i 0) ≡ true
    → read_front m (drop i bytes) ≡ read_front (m * 10 + (get_or bytes i 0 - 48)) (drop (i + 1) bytes)
digit_taken bytes m i h digit = rw digit at (read_at bytes m i h)

-- with the digit at this index the number is too great, and with all others after it
pub too_great : (max n m i : ℕ) (bytes : List ℕ) → read_front n bytes ≡ read_front m (drop i bytes) → i < length bytes
    → is_ascii_digit (get_or bytes i 0) ≡ true
    → max < m * 10 + (get_or bytes i 0 - 48) → ReadsNumber max (number n ++ bytes) None
too_great max n m i bytes is h digit large = record {
  found = tt;
  only = λ a rest within ends e.
      let value : (read_front (m * 10 + (get_or bytes i 0 - 48)) (drop (i + 1) bytes)).0 ≡ a = ap (λ (f : ℕ × List ℕ). f.0)
      (sym (is ∙ digit_taken bytes m i h digit) ∙ sym (read_number_on n bytes) ∙ front_read (number n ++ bytes) rest a ends e) in
      absurd (omega (arith, no_smaller (m * 10 + (get_or bytes i 0 - 48)) (drop (i + 1) bytes)));
}

-- there is no digit at this index, or no byte
pub stopped : (bytes : List ℕ) (m i : ℕ) → i < length bytes → is_ascii_digit (get_or bytes i 0) ≡ false
    → read_front m (drop i bytes) ≡ (m, take (length bytes - i) (drop i bytes))
stopped bytes m i h other = rw other at (read_at bytes m i h) ∙ ap (λ left. (m, left)) (sym (take_rest bytes i))

pub ended : (bytes : List ℕ) (m i : ℕ) → length bytes ≤ i
    → read_front m (drop i bytes) ≡ (m, take (length bytes - length bytes) (drop (length bytes) bytes))
ended bytes m i end = rw (drop_of_length-le bytes end, take_rest bytes (length bytes), drop-length bytes) refl

-- ---- Bytes that are one number

pub no_whole_number : (max : ℕ) (bytes : List ℕ) → ReadsNumber max bytes None → IsNumber max bytes None
no_whole_number max bytes h n small e = none-some (n, []) (h.only n [] small refl (e ∙ sym (append-nil (number n))))

pub more_than_number : (max : ℕ) (bytes : List ℕ) (n : ℕ) (rest : List ℕ) → ReadsNumber max bytes (Some (n, rest))
    → false ≡ (length rest == 0) → IsNumber max bytes None
more_than_number max bytes n rest h more m small e =
    let none : rest ≡ [] = (some_pair_parts n m rest [] (h.only m [] small refl (e ∙ sym (append-nil (number m))))).1 in
    grind (arith, nat_tests, ap length none)

-- each number has its own digits
pub number_same : (a b : ℕ) → number a ≡ number b → a ≡ b
number_same a b e =
    let same : ◌≡◌ {A = ℕ × List ℕ} (a, []) (b, []) = sym (read_number a [] tt) ∙ ap (λ ds. read_front 0 (ds ++ [])) e
    ∙ read_number b [] tt in
    ap (λ (f : ℕ × List ℕ). f.0) same
