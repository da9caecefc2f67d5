-- Numbers of texts.
use Rattle.std.proofs.Common.{◌≡◌, ℕ, ◌+◌, List, [], ◌∷◌, ◌++◌, length, get_or, refl, sym, ap, ◌∙◌, arith, Some, None, false, Bool}
use Rattle.std.specs.Prelude.{bytes_eq, slice_get, if◌then◌else◌}
use Rattle.std.specs.List.{position_from, IsDistinct, list_any}
use Rattle.std.proofs.lemmas.Bool.Decides.{nat_tests}
use Rattle.std.proofs.lemmas.Cmp.{nat_list_eq_equiv}
use Rattle.std.proofs.lemmas.Iterator.Adapters.{position_from-zero}
use Rattle.std.proofs.lemmas.List.Quantifiers.{position-Some}
use Rattle.std.proofs.lemmas.List.Sums.{position_or_len_is}
use Rattle.std.proofs.lemmas.Option.{slice_get-get_or, slice_get_within, get_or_from_slice_get}
use Rattle.std.proofs.lemmas.Slice.Eq.{bytes_eq-Decides}
use Rattle.std.proofs.lemmas.Map.Keys.{IsDistinct-push, apart_from_distinct}
use Rattle.arena_symbols.specs.Interner.{number_of}

push_position : (text : List ℕ) (xs : List (List ℕ)) (q : List ℕ) (i : ℕ) → position_from (bytes_eq text) i xs ≡ None
    → position_from (bytes_eq q) i (xs ++ text ∷ [])
    ≡ (if bytes_eq q text then Some (i + length xs) else position_from (bytes_eq q) i xs)
push_position text [] q i none = ap (λ (n : ℕ). if bytes_eq q text then Some n else None) (omega arith)
push_position text (x ∷ xs) q i none =
    let is = bytes_eq-Decides in
    grind (arith, none, push_position text xs q (i + 1), (is q x).0, (is q text).0, (is text x).1)

-- A new text at the end has the next number, and the others keep theirs.
pub number_push : (texts : List (List ℕ)) (text q : List ℕ) → number_of texts text ≡ None
    → number_of (texts ++ text ∷ []) q ≡ (if bytes_eq q text then Some (length texts) else number_of texts q)
number_push texts text q none = grind (arith, push_position text texts q 0 none)

-- a text that equals none has no number
none_any : {X : Type 0} (p : X → Bool) → (xs : List X) (i : ℕ) → position_from p i xs ≡ None → list_any p xs ≡ false
none_any p [] i none = refl
none_any p (x ∷ xs) i none = grind (arith, none, none_any p xs (i + 1))

-- none
pub distinct_none : IsDistinct bytes_eq []
unfolding IsDistinct
distinct_none = tt

-- Distinct texts stay so with a new one.
pub distinct_push : (texts : List (List ℕ)) (text : List ℕ) → IsDistinct bytes_eq texts → number_of texts text ≡ None
    → IsDistinct bytes_eq (texts ++ text ∷ [])
distinct_push texts text distinct none =
    IsDistinct-push nat_list_eq_equiv texts text distinct (none_any (bytes_eq text) texts 0 none)

-- The text with a number is at that place.
pub number_there : (text : List ℕ) (texts : List (List ℕ)) (n : ℕ) → number_of texts text ≡ Some n → slice_get texts n ≡ Some text
number_there text texts n is =
    let at = position-Some (bytes_eq text) texts n [] (position_from-zero (bytes_eq text) texts ∙ is) in
    slice_get-get_or texts n [] at.0 ∙ ap Some (sym ((bytes_eq-Decides text (get_or texts n [])).0 at.1))

-- Of distinct texts each has its place as its number.
pub number_place : (text : List ℕ) (texts : List (List ℕ)) (n : ℕ) → IsDistinct bytes_eq texts → slice_get texts n ≡ Some text
    → number_of texts text ≡ Some n
number_place text texts n distinct there =
    let within = slice_get_within texts n text there in
    let is = get_or_from_slice_get texts n text [] there in
    let place = position_or_len_is (bytes_eq text) texts n [] (omega (arith, within))
    (λ k less. nat_list_eq_equiv.symm text (get_or texts k []) ∙ ap (bytes_eq (get_or texts k [])) (sym is)
    ∙ apart_from_distinct bytes_eq texts k n [] distinct less within)
    (λ more. (bytes_eq-Decides text (get_or texts n [])).1 (sym is)) in
    grind (arith, nat_tests, place, within, position_from-zero (bytes_eq text) texts)
