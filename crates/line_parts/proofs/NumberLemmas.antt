-- The decimal digits of a number.
use Rattle.std.proofs.Common.{◌≡◌, ℕ, zero, suc, ◌+◌, ◌-◌, ◌*◌, ◌/◌, ◌%◌, ◌^◌, ◌<◌, ◌≤◌, true, false, List, [], ◌∷◌, ◌++◌, length, length-append, get_or, inl, inr, refl, sym, ap, ◌∙◌, arith, append_assoc}
use Rattle.std.specs.Prelude.{nat_lt, if◌then◌else◌}
use Rattle.std.specs.Char.{is_ascii_digit}
use Rattle.std.specs.Str.{all_ascii_digits}
use Rattle.std.specs.Fmt.{decimal}
use Rattle.std.proofs.lemmas.Fmt.{decimal_digit, decimal_step}
use Rattle.std.proofs.lemmas.Bool.{cases_lt}
use Rattle.std.proofs.lemmas.Bool.Decides.{nat_tests}
use Rattle.line_parts.specs.Numbers.{digits, number}

-- A property that holds for one digit, and for one digit more, holds for each number and its digits.
module _
    (P : ℕ → List ℕ → Type 0)
    (one : (n : ℕ) → n < 10 → P n ((48 + n) ∷ []))
    (more : (n : ℕ) (ds : List ℕ) → 10 ≤ n → P (n / 10) ds → P n (ds ++ (48 + n % 10) ∷ [])) where
  digits_by_steps : (k n : ℕ) → n < k → P n (digits k n)
  unfolding digits
  digits_by_steps zero n h = absurd (omega arith)
  digits_by_steps (suc k) n h = elim (cases_lt n 10) [
    | inl low ↦ let test : nat_lt n 10 ≡ true = grind (arith, nat_tests) in rw (test, digits) (one n low)
    | inr high ↦ let test : nat_lt n 10 ≡ false = grind (arith, nat_tests) in
        rw (test, digits) (more n (digits k (n / 10)) high (digits_by_steps k (n / 10) (omega arith)))
  ]

  pub number_by_steps : (n : ℕ) → P n (number n)
  unfolding number
  number_by_steps n = digits_by_steps (suc n) n (omega arith)

pub number-decimal : (n : ℕ) → n < 2 ^ 64 → number n ≡ decimal n
number-decimal = number_by_steps (λ n ds. n < 2 ^ 64 → ds ≡ decimal n)
    (λ n low h. sym (decimal_digit n low))
    (λ n ds high front h. ap (λ es. es ++ (48 + n % 10) ∷ []) (front (omega arith)) ∙ sym (decimal_step n high h))

pub number_digits : (n : ℕ) → all_ascii_digits (number n) ≡ true
number_digits = number_by_steps (λ n ds. all_ascii_digits ds ≡ true)
    (λ n low. grind (arith, nat_tests))
    (λ n ds high front. one_more ds (48 + n % 10) front (grind (arith, nat_tests)))
  where
    one_more : (ds : List ℕ) (d : ℕ) → all_ascii_digits ds ≡ true → is_ascii_digit d ≡ true → all_ascii_digits (ds ++ d ∷ []) ≡ true
    one_more [] d h digit = rw digit
    one_more (c ∷ ds) d h digit =
        let more : all_ascii_digits ds ≡ true → all_ascii_digits (ds ++ d ∷ []) ≡ true = λ all. one_more ds d all digit in
        grind (arith, nat_tests)

pub number_nonempty : (n : ℕ) → 0 < length (number n)
number_nonempty = number_by_steps (λ n ds. 0 < length ds) (λ n low. omega arith) (λ n ds high front. omega (arith, length-append {A = ℕ}))

-- the first digit of a number above 0 is above 0
pub first_number : (n : ℕ) → 0 < n → 48 < get_or (number n) 0 0
first_number = number_by_steps (λ n ds. 0 < n → 48 < get_or ds 0 0)
    (λ n low h. omega arith)
    (λ n ds high front h. longer ds ((48 + n % 10) ∷ []) (front (omega arith)))
  where
    longer : (ds es : List ℕ) → 48 < get_or ds 0 0 → 48 < get_or (ds ++ es) 0 0
    longer [] es h = absurd (omega arith)
    longer (d ∷ ds) es h = h

-- the number that the digits at the front add to n, and the text after them
abbrev pub read_front : ℕ → List ℕ → ℕ × List ℕ
read_front n [] = (n, [])
read_front n (c ∷ cs) = if is_ascii_digit c then read_front (n * 10 + (c - 48)) cs else (n, c ∷ cs)

read_digit : (m d n : ℕ) (cs : List ℕ) → d < 10 → m * 10 + d ≡ n → read_front m ((48 + d) ∷ cs) ≡ read_front n cs
read_digit m d n cs low e =
    let test : is_ascii_digit (48 + d) ≡ true = grind (arith, nat_tests) in
    let value : m * 10 + (48 + d - 48) ≡ n = omega arith in
    rw (test, value)

pub read_number_on : (n : ℕ) (cs : List ℕ) → read_front 0 (number n ++ cs) ≡ read_front n cs
read_number_on = number_by_steps (λ n ds. (cs : List ℕ) → read_front 0 (ds ++ cs) ≡ read_front n cs)
    (λ n low cs. read_digit 0 n n cs low (omega arith))
    (λ n ds high front cs. ap (read_front 0) (append_assoc ds ((48 + n % 10) ∷ []) cs)
    ∙ front ((48 + n % 10) ∷ cs)
    ∙ read_digit (n / 10) (n % 10) n cs (omega arith) (omega arith))

-- nothing, or a byte that isn't a digit
abbrev pub Stops : List ℕ → Type 0
Stops [] = Unit {0}
Stops (c ∷ cs) = is_ascii_digit c ≡ false

-- A number reads back as what was written.
pub read_number : (n : ℕ) (rest : List ℕ) → Stops rest → read_front 0 (number n ++ rest) ≡ (n, rest)
read_number n rest s = read_number_on n rest ∙ stopped rest s
  where
    stopped : (cs : List ℕ) → Stops cs → read_front n cs ≡ (n, cs)
    stopped [] h = refl
    stopped (c ∷ cs) h = rw h
