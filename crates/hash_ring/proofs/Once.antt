-- Slots and the list of their items.
use Rattle.std.proofs.Common.{◌≡◌, ℕ, suc, zero, List, [], ◌∷◌, map, refl, sym, ap, ◌∙◌, arith, Some, None, Option, false}
use Rattle.std.proofs.lemmas.Option.{none-some}
use Rattle.std.proofs.lemmas.Bool.{both_ways, false_from_ne_true}
use Rattle.std.proofs.lemmas.Slice.Eq.{bytes_eq-Decides}
use Rattle.std.specs.Prelude.{slice_get, bytes_eq}
use Rattle.std.specs.List.{IsDistinct, AllByRecursion}
use Rattle.hash_ring.specs.laws.AgreeLaws.{has-items}
use Rattle.hash_ring.specs.Finite.{AreOnce}
use Rattle.hash_ring.specs.Slots.{items, Has, IsOnce}
use Rattle.hash_ring.proofs.Places.{same_item, not_free}

-- what is true of the items in all slots is true of each item in the list
pub all-items : {X Y : Type 0} (P : Y → Type 0) (f : X → Y) (slots : List (Option X)) → ((x : X) → Has slots x → P (f x))
    → AllByRecursion P (map f (items slots))
all-items P f [] each = tt
all-items P f (None ∷ xs) each = all-items P f xs (λ x h. each x (suc h.0, h.1))
all-items P f (Some z ∷ xs) each = (each z (0, refl), all-items P f xs (λ x h. each x (suc h.0, h.1)))

module _ {K V : Type 0} (content : K → List ℕ) where
  -- no content occurs twice in the list if none does in the slots
  pub are_once : (slots : List (Option (K × V))) → IsOnce (λ p. content p.0) slots → AreOnce content (items slots)
  unfolding IsDistinct
  are_once [] once = tt
  are_once (None ∷ xs) once = are_once xs (λ i j x y s t e. let h : suc i ≡ suc j = once (suc i) (suc j) x y s t e in omega arith)
  are_once (Some z ∷ xs) once = (
    all-items (λ q. bytes_eq (content z.0) q ≡ false) (λ p. content p.0) xs
        (λ x h. false_from_ne_true (bytes_eq (content z.0) (content x.0)) (λ e.
        let h : 0 ≡ suc h.0 = once 0 (suc h.0) z x refl h.1 ((bytes_eq-Decides (content z.0) (content x.0)).0 e) in absurd (omega arith))),
    are_once xs (λ i j x y s t e. let h : suc i ≡ suc j = once (suc i) (suc j) x y s t e in omega arith),
  )

  differs : (z : K × V) (xs : List (Option (K × V))) (j : ℕ) (x : K × V)
      → AllByRecursion (λ q. bytes_eq (content z.0) q ≡ false) (map (λ p. content p.0) (items xs))
      → slice_get xs j ≡ Some (Some x) → content z.0 ≡ content x.0 → ⊥
  differs z xs j x all s e =
      both_ways (bytes_eq (content z.0) (content x.0)) (has-items (λ q. bytes_eq (content z.0) q ≡ false) (λ p. content p.0) xs j x s all)
      ((bytes_eq-Decides (content z.0) (content x.0)).1 e)

  -- no content occurs twice in the slots if none does in the list
  pub is_once : (slots : List (Option (K × V))) → AreOnce content (items slots) → IsOnce (λ p. content p.0) slots
  unfolding IsDistinct
  is_once [] once i j x y s t e = absurd (none-some (Some x) s)
  is_once (None ∷ xs) once zero j x y s t e = absurd (not_free x (sym s))
  is_once (None ∷ xs) once (suc i) zero x y s t e = absurd (not_free y (sym t))
  is_once (None ∷ xs) once (suc i) (suc j) x y s t e = ap suc (is_once xs once i j x y s t e)
  is_once (Some z ∷ xs) once zero zero x y s t e = refl
  is_once (Some z ∷ xs) once zero (suc j) x y s t e = absurd (differs z xs j y once.0 t (ap (λ p. content p.0) (same_item z x s) ∙ e))
  is_once (Some z ∷ xs) once (suc i) zero x y s t e = absurd (differs z xs i x once.0 s (ap (λ p. content p.0) (same_item z y t) ∙ sym e))
  is_once (Some z ∷ xs) once (suc i) (suc j) x y s t e = ap suc (is_once xs once.1 i j x y s t e)
