-- The tokens of pieces of text, one after another.
use Rattle.std.proofs.Common.{◌≡◌, ℕ, zero, suc, ◌+◌, ◌-◌, ◌*◌, ◌%◌, ◌<◌, ◌==◌, Bool, true, false, List, [], ◌∷◌, ◌++◌, length, get_or, length-append, refl, ap, ◌∙◌, arith, codes}
use Rattle.std.specs.List.{list_all, AllByRecursion}
use Rattle.std.proofs.lemmas.Bool.Decides.{nat_tests}
use Rattle.line_parts.specs.Numbers.{number}
use Rattle.line_parts.proofs.NumberLemmas.{number_by_steps}
use Rattle.tree_rules.specs.Tokens.{Token, Word, Number, Other, is_space, is_digit, is_name_start, is_name_byte, run, value, has_needless_zero, Front, look_up, word_front, number_front, sign_front, front, tokens_from, without_places}
use Rattle.tree_rules.specs.Trees.{IsName}
use Rattle.std.proofs.lemmas.Bool.{and_parts, or_left, cond-true, cond-false, cond_both}
use Rattle.std.proofs.lemmas.List.Folds.{list_all-append}

-- the tokens after the first bytes, this many
unfoldable pub lex : ℕ → List ℕ → List Token
lex skip [] = []
lex (suc skip) (b ∷ bytes) = lex skip bytes
lex zero (b ∷ bytes) = elim (is_space b) [ true ↦ lex zero bytes | false ↦ (front b bytes).token ∷ lex ((front b bytes).length - 1) bytes ]

pub lex_is : (at skip : ℕ) (bytes : List ℕ) → without_places (tokens_from at skip bytes) ≡ lex skip bytes
unfolding lex tokens_from
lex_is at skip [] = refl
lex_is at (suc skip) (b ∷ bytes) = lex_is (suc at) skip bytes
lex_is at zero (b ∷ bytes) = grind (arith, lex_is (suc at) zero bytes, lex_is (suc at) ((front b bytes).length - 1) bytes)

pub lex_behind : (xs rest : List ℕ) → lex (length xs) (xs ++ rest) ≡ lex 0 rest
unfolding lex
lex_behind [] [] = refl
lex_behind [] (b ∷ rest) = refl
lex_behind (x ∷ xs) rest = lex_behind xs rest

-- what holds of numbers, words and signs holds of the front of a text
pub front_by : (b : ℕ) (bytes : List ℕ) (P : Front → Type 0) → (is_digit b ≡ true → P (number_front (run is_digit (b ∷ bytes))))
    → (is_name_start b ≡ true → P (word_front (run is_name_byte (b ∷ bytes)))) → P (sign_front b) → P (front b bytes)
unfolding front
front_by b bytes P digits name other =
    cond_both (is_digit b) _ _ P digits (λ d. cond_both (is_name_start b) _ _ P name (λ s. other))

-- and what holds of each sign's token, and of one that no program has, of the token at a byte
pub sign_by : (b : ℕ) (P : Token → Type 0) → P Other → (rows : List (ℕ × Token)) → AllByRecursion (λ (row : ℕ × Token). P row.1) rows
    → P (look_up rows b)
sign_by b P other [] all = other
sign_by b P other (row ∷ rows) all = cond_both (b == row.0) _ _ P (λ h. all.0) (λ h. sign_by b P other rows all.1)

-- nothing, or a byte that continues no name or number
abbrev pub Stops : List ℕ → Type 0
Stops [] = Unit {0}
Stops (b ∷ bytes) = is_name_byte b ≡ false

run_stops : (passes : ℕ → Bool) (xs rest : List ℕ) → list_all passes xs ≡ true → run passes rest ≡ [] → run passes (xs ++ rest) ≡ xs
run_stops passes [] rest all stop = stop
run_stops passes (x ∷ xs) rest all stop =
    let parts = and_parts (passes x) (list_all passes xs) all in
    rw parts.0 (ap (λ ys. x ∷ ys) (run_stops passes xs rest parts.1 stop))

name_stops : (rest : List ℕ) → Stops rest → run is_name_byte rest ≡ []
name_stops rest h = grind (arith, nat_tests)

digit_stops : (rest : List ℕ) → Stops rest → run is_digit rest ≡ []
digit_stops [] h = refl
digit_stops (b ∷ bytes) h = grind (arith, nat_tests)

-- ---- Names

-- a token at a byte that is no space, and those after it
lex_front : (b : ℕ) (bytes rest : List ℕ) (t : Token) (f : Front) → is_space b ≡ false → front b (bytes ++ rest) ≡ f → f.token ≡ t
    → f.length ≡ suc (length bytes) → lex 0 (b ∷ bytes ++ rest) ≡ t ∷ lex 0 rest
unfolding lex
lex_front b bytes rest t f space is token long =
    let one_less : f.length - 1 ≡ length bytes = omega (arith, long) in
    by (is_space b) space ∙ ap (λ (g : Front). g.token ∷ lex (g.length - 1) (bytes ++ rest)) is
    ∙ (λ i. token i ∷ lex (one_less i) (bytes ++ rest)) ∙ ap (λ ts. t ∷ ts) (lex_behind bytes rest)
  where
    by : (s : Bool) → s ≡ false
        → elim s [
          | true ↦ lex 0 (bytes ++ rest)
          | false ↦ (front b (bytes ++ rest)).token ∷ lex ((front b (bytes ++ rest)).length - 1)
              (bytes ++ rest)
        ]
        ≡ (front b (bytes ++ rest)).token ∷ lex ((front b (bytes ++ rest)).length - 1) (bytes ++ rest)
    by true h = cc
    by false h = refl

name_front : (b : ℕ) (bytes rest : List ℕ) → IsName (b ∷ bytes) → Stops rest → front b (bytes ++ rest) ≡ word_front (b ∷ bytes)
unfolding front
name_front b bytes rest h stop = grind (arith, nat_tests, or_left, cond-false, cond-true, run_stops, name_stops)

pub lex_name : (bytes rest : List ℕ) → IsName bytes → Stops rest → lex 0 (bytes ++ rest) ≡ Word bytes ∷ lex 0 rest
lex_name bytes rest h stop = grind (arith, nat_tests, lex_front, name_front, cond-false, codes)

-- ---- Numbers

-- digits of a number, without a needless zero
record AreDigits (n : ℕ) (ds : List ℕ) : Type 0 where
  digits : list_all is_digit ds ≡ true
  value_is : value 0 ds ≡ n
  some : 0 < length ds
  first : 0 < n → 48 < get_or ds 0 0
  needless : has_needless_zero ds ≡ false

value_one_more : (m d : ℕ) (ds : List ℕ) → value m (ds ++ d ∷ []) ≡ value m ds * 10 + (d - 48)
value_one_more m d [] = refl
value_one_more m d (e ∷ ds) = value_one_more (m * 10 + (e - 48)) d ds

all_one_more : (ds : List ℕ) (d : ℕ) → list_all is_digit ds ≡ true → is_digit d ≡ true → list_all is_digit (ds ++ d ∷ []) ≡ true
all_one_more ds d h one = rw (list_all-append is_digit ds (d ∷ []), h, one) refl

longer_first : (ds es : List ℕ) → 48 < get_or ds 0 0 → 48 < get_or (ds ++ es) 0 0
longer_first [] es h = absurd (omega arith)
longer_first (d ∷ ds) es h = h

longer_needless : (ds : List ℕ) (d : ℕ) → 48 < get_or ds 0 0 → has_needless_zero (ds ++ d ∷ []) ≡ false
longer_needless [] d h = absurd (omega arith)
longer_needless (e ∷ []) d h = grind (arith, nat_tests)
longer_needless (e ∷ f ∷ ds) d h = grind (arith, nat_tests)

number_digits : (n : ℕ) → AreDigits n (number n)
number_digits = number_by_steps AreDigits
    (λ n low. record {
      digits = one_digit n low;
      value_is = one_value n;
      some = omega arith;
      first = λ h. omega arith;
      needless = refl;
    })
    (λ n ds high front. record {
      digits = all_one_more ds (48 + n % 10) front.digits (digit (n % 10) (omega arith));
      value_is = value_one_more 0 (48 + n % 10) ds ∙ ap (λ v. v * 10 + (48 + n % 10 - 48)) front.value_is ∙ (omega arith);
      some = omega (arith, length-append {A = ℕ});
      first = λ h. longer_first ds ((48 + n % 10) ∷ []) (front.first (omega arith));
      needless = longer_needless ds (48 + n % 10) (front.first (omega arith));
    })
  where
    digit : (d : ℕ) → d < 10 → is_digit (48 + d) ≡ true
    digit d low = grind (arith, nat_tests)

    one_digit : (n : ℕ) → n < 10 → list_all is_digit ((48 + n) ∷ []) ≡ true
    one_digit n low = rw (digit n low) refl

    one_value : (n : ℕ) → value 0 ((48 + n) ∷ []) ≡ n
    one_value n = omega arith

digits_lex : (n : ℕ) (ds rest : List ℕ) → AreDigits n ds → Stops rest → lex 0 (ds ++ rest) ≡ Number n ∷ lex 0 rest
unfolding front
digits_lex n ds rest h stop = grind (arith, nat_tests, and_parts, cond-true, run_stops, digit_stops, lex_front, cond-false)

pub lex_number : (n : ℕ) (rest : List ℕ) → Stops rest → lex 0 (number n ++ rest) ≡ Number n ∷ lex 0 rest
lex_number n rest stop = digits_lex n (number n) rest (number_digits n) stop
