-- Bytes that are read from hexadecimal digits.
use Rattle.std.proofs.Common.{◌≡◌, ◌≢◌, ℕ, ◌/◌, ◌%◌, ◌<◌, IsTrue, List, [], ◌∷◌, ◌++◌, length, drop, get_or, append_assoc, Option, Some, refl, sym, ap, ◌∙◌, subst, arith, codes}
use Rattle.std.specs.List.{AllByRecursion, flat_map}
use Rattle.std.proofs.lemmas.Bool.Decides.{nat_tests}
use Rattle.std.proofs.lemmas.Grind.{flat_map-append}
use Rattle.arena_rules.proofs.ListLemmas.{all_append}
use Rattle.line_parts.specs.Numbers.{hex, hex_digit, hex_pair, IsByte}
use Rattle.line_parts.specs.Reads.{is_word_end, ReadsFront, HasNoPair}

-- these bytes were read, and this is left
pub record HasRead (bytes items left : List ℕ) : Type 0 where
  pub text : bytes ≡ flat_map hex_pair items ++ left
  pub fit : AllByRecursion IsByte items

-- one byte more
pub read_more : (bytes items left : List ℕ) (b : ℕ) (rest : List ℕ) → HasRead bytes items left → IsByte b × (left ≡ hex_pair b ++ rest)
    → HasRead bytes (items ++ b ∷ []) rest
read_more bytes items left b rest h next = record {
  text = h.text ∙ ap (λ xs. flat_map hex_pair items ++ xs) next.1 ∙ sym (append_assoc (flat_map hex_pair items) (hex_pair b) rest)
      ∙ ap (λ xs. xs ++ rest) (sym (flat_map-append hex_pair items (b ∷ [])));
  fit = all_append IsByte items (b ∷ []) h.fit (next.0, tt);
}

-- one hexadecimal digit for each number below 16
same_digit : (c d : ℕ) → c < 16 → d < 16 → hex_digit c ≡ hex_digit d → c ≡ d
same_digit c d h g e = grind (arith, nat_tests)

-- two bytes with the same digits
same_byte : (b c : ℕ) → IsByte b → IsByte c → hex_digit (b / 16) ≡ hex_digit (c / 16) → hex_digit (b % 16) ≡ hex_digit (c % 16) → b ≡ c
same_byte b c h g high low =
    let first = same_digit (b / 16) (c / 16) (omega arith) (omega arith) high in
    let second = same_digit (b % 16) (c % 16) (omega arith) (omega arith) low in
    omega arith

-- no word ends before two digits
no_end : (b : ℕ) (rest : List ℕ) → IsByte b → IsTrue (is_word_end (hex_pair b ++ rest)) → ⊥
no_end b rest byte end = let small : b / 16 < 16 = omega arith in grind (arith, nat_tests)

-- all pairs were read
one_way : (xs ys left rest : List ℕ) → AllByRecursion IsByte xs → AllByRecursion IsByte ys → HasNoPair left → IsTrue (is_word_end rest)
    → flat_map hex_pair xs ++ left ≡ flat_map hex_pair ys ++ rest → (xs ≡ ys) × (left ≡ rest)
one_way [] [] left rest p q none end e = (refl, e)
one_way [] (y ∷ ys) left rest p q none end e = absurd (none y (flat_map hex_pair ys ++ rest) q.0 e)
one_way (x ∷ xs) [] left rest p q none end e =
    absurd (no_end x (flat_map hex_pair xs ++ left) p.0 (subst (λ bytes. IsTrue (is_word_end bytes)) (sym e) end))
one_way (x ∷ xs) (y ∷ ys) left rest p q none end e =
    let high : hex_digit (x / 16) ≡ hex_digit (y / 16) = ap (λ zs. get_or zs 0 0) e in
    let low : hex_digit (x % 16) ≡ hex_digit (y % 16) = ap (λ zs. get_or zs 1 0) e in
    let more = one_way xs ys left rest p.1 q.1 none end (ap (drop 2) e) in
    (λ i. same_byte x y p.0 q.0 high low i ∷ more.0 i, more.1)

-- ---- HEX

abbrev pub ReadsHex : List ℕ → Option (List ℕ × List ℕ) → Type 0
ReadsHex bytes read = ReadsFront (AllByRecursion IsByte) hex bytes read

-- the bytes of all pairs at the front, if there are some and there is no dash
pub hex_some : (bytes items left : List ℕ) → ((rest : List ℕ) → bytes ≢ codes "-" ++ rest) → bytes ≡ flat_map hex_pair items ++ left
    → AllByRecursion IsByte items → HasNoPair left → length items ≢ 0
    → ReadsHex bytes (Some (items, left))
hex_some bytes [] left no_dash text fit none some = absurd (some refl)
hex_some bytes (b ∷ items) left no_dash text fit none some = record {
  found = (fit, text);
  only = λ others rest fits end e.
      let same = one_way (b ∷ items) others left rest fit fits none end (sym text ∙ pairs others rest e) in
      λ i. Some (same.0 i, same.1 i);
}
  where
    pairs : (others rest : List ℕ) → bytes ≡ hex others ++ rest → bytes ≡ flat_map hex_pair others ++ rest
    pairs [] rest e = absurd (no_dash rest e)
    pairs (c ∷ others) rest e = e
