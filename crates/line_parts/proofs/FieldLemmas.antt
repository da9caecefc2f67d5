-- The parts of a line, read back: words, numbers after spaces, and hexadecimal digits.
use Rattle.std.proofs.Common.{◌≡◌, ℕ, zero, suc, ◌+◌, ◌-◌, ◌*◌, ◌/◌, ◌%◌, Bool, true, false, ◌&&◌, List, [], ◌∷◌, ◌++◌, length, drop, get_or, refl, ap, ◌∙◌, arith, append_assoc}
use Rattle.std.specs.Prelude.{nat_lt, ◌==◌, if◌then◌else◌}
use Rattle.std.specs.List.{AllByRecursion, flat_map}
use Rattle.std.proofs.lemmas.Bool.Decides.{nat_tests}
use Rattle.line_parts.specs.Numbers.{number, fields, hex, hex_digit, hex_pair, IsByte}
use Rattle.line_parts.proofs.NumberLemmas.{read_front, read_number, Stops}

abbrev begins : List ℕ → List ℕ → Bool
begins [] text = true
begins (c ∷ word) [] = false
begins (c ∷ word) (d ∷ text) = c == d && begins word text

-- A row is a word and what to read after it: the first row whose word the text begins with is taken.
abbrev pub read_by : {A : Type 0} → A → List (List ℕ × (List ℕ → A)) → List ℕ → A
read_by other [] text = other
read_by other (row ∷ rows) text = if begins row.0 text then row.1 (drop (length row.0) text) else read_by other rows text

-- this many numbers, and the text after them
pub read_fields : ℕ → List ℕ → List ℕ × List ℕ
read_fields zero text = ([], text)
read_fields (suc k) text = let f = read_front 0 (drop 1 text) in let g = read_fields k f.1 in (f.0 ∷ g.0, g.1)

pub read_fields_back : (ns rest : List ℕ) → Stops rest → read_fields (length ns) (fields ns ++ rest) ≡ (ns, rest)
unfolding read_fields
read_fields_back [] rest s = refl
read_fields_back (n ∷ ns) rest s =
    let first = ap (read_front 0) (append_assoc (number n) (fields ns) rest) ∙ read_number n (fields ns ++ rest) (stops ns) in
    ap (λ f. let g = read_fields (length ns) f.1 in (f.0 ∷ g.0, g.1)) first
    ∙ ap (λ g. (n ∷ g.0, g.1)) (read_fields_back ns rest s)
  where
    stops : (ms : List ℕ) → Stops (fields ms ++ rest)
    stops [] = s
    stops (m ∷ ms) = refl

-- what is made of one number, and the text after it
abbrev pub read_field : {A : Type 0} → (ℕ → A) → List ℕ → A × List ℕ
read_field make text = let f = read_fields 1 text in (make (get_or f.0 0 0), f.1)

pub read_field_back : {A : Type 0} (make : ℕ → A) (n : ℕ) (rest : List ℕ) → Stops rest
    → read_field make (fields (n ∷ []) ++ rest) ≡ (make n, rest)
read_field_back make n rest s = ap (λ f. (make (get_or f.0 0 0), f.1)) (read_fields_back (n ∷ []) rest s)

abbrev digit_value : ℕ → ℕ
digit_value c = if nat_lt c 58 then c - 48 else c - 87

-- the bytes whose digits come before a line feed, and the text from it on
read_pairs : List ℕ → List ℕ × List ℕ
read_pairs [] = ([], [])
read_pairs (a ∷ []) = ([], a ∷ [])
read_pairs (a ∷ b ∷ cs) = if a == 10 then ([], a ∷ b ∷ cs) else (let more = read_pairs cs in
    ((digit_value a * 16 + digit_value b) ∷ more.0, more.1))

read_pairs_back : (bytes rest : List ℕ) → AllByRecursion IsByte bytes
    → read_pairs (flat_map hex_pair bytes ++ 10 ∷ rest) ≡ (bytes, 10 ∷ rest)
unfolding read_pairs
read_pairs_back [] [] h = refl
read_pairs_back [] (c ∷ cs) h = refl
read_pairs_back (b ∷ bytes) rest h =
    let fits = h.0 in
    let no_feed : (hex_digit (b / 16) == 10) ≡ false = grind (arith, nat_tests) in
    let high : digit_value (hex_digit (b / 16)) ≡ b / 16 = grind (arith, nat_tests) in
    let low : digit_value (hex_digit (b % 16)) ≡ b % 16 = grind (arith, nat_tests) in
    let byte : b / 16 * 16 + b % 16 ≡ b = omega arith in
    rw (no_feed, high, low, byte, read_pairs_back bytes rest h.1)

pub read_hex : List ℕ → List ℕ × List ℕ
read_hex [] = ([], [])
read_hex (c ∷ cs) = if c == 45 then ([], cs) else read_pairs (c ∷ cs)

pub read_hex_back : (bytes rest : List ℕ) → AllByRecursion IsByte bytes → read_hex (hex bytes ++ 10 ∷ rest) ≡ (bytes, 10 ∷ rest)
unfolding read_hex
read_hex_back [] rest h = refl
read_hex_back (b ∷ bytes) rest h =
    let fits = h.0 in
    let no_dash : (hex_digit (b / 16) == 45) ≡ false = grind (arith, nat_tests) in
    rw no_dash (read_pairs_back (b ∷ bytes) rest h)
