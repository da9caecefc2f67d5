-- Slots under two home functions, and under two content functions, that agree on the items in them.
use Rattle.std.proofs.Common.{◌≡◌, ℕ, zero, suc, ◌+◌, List, [], ◌∷◌, map, refl, sym, ap, subst, ◌∙◌, Option, Some, None, cond}
use Rattle.std.proofs.Math.Path.{fun_ext}
use Rattle.std.specs.Prelude.{slice_get, bytes_eq}
use Rattle.std.specs.List.{AllByRecursion}
use Rattle.hash_ring.specs.Finite.{first_of}
use Rattle.hash_ring.specs.Slots.{spot, items, Has, IsAway, IsBehind, IsOrdered}

-- what is true of each item in the list is true of the item in a slot
pub has-items : {X Y : Type 0} (P : Y → Type 0) (f : X → Y) (slots : List (Option X)) (i : ℕ) (x : X) → slice_get slots i ≡ Some (Some x)
    → AllByRecursion P (map f (items slots)) → P (f x)
has-items P f [] i x s all = absurd (cc)
has-items P f (None ∷ xs) zero x s all = absurd (cc)
has-items P f (None ∷ xs) (suc i) x s all = has-items P f xs i x s all
has-items P f (Some z ∷ xs) zero x s all = let same : z ≡ x = cc in subst (λ w. P (f w)) same all.0
has-items P f (Some z ∷ xs) (suc i) x s all = has-items P f xs i x s all.1

-- slots under two home functions that agree on the items in them
module _ {X : Type 0} (one other : X → ℕ) (n : ℕ) (slots : List (Option X)) (same : (x : X) → Has slots x → other x ≡ one x) where
  pub away-agree : (i : ℕ) (x : X) (d : ℕ) → IsAway one n slots i x d → IsAway other n slots i x d
  away-agree i x d a = record { there = a.there; less = a.less; place = a.place ∙ ap (λ h. spot n h d) (sym (same x (i, a.there))) }

  pub behind-agree : (i d : ℕ) → IsBehind one n slots i d → IsBehind other n slots i d
  behind-agree i d b = record { item = b.item; distance = b.distance; away = away-agree i b.item b.distance b.away; far = b.far }

  pub ordered-agree : IsOrdered one n slots → IsOrdered other n slots
  ordered-agree o = record {
    long = o.long;
    order = λ x d l s.
        let home : other x ≡ one x = same x (spot n (other x) (d + 1), s) in
        let there : slice_get slots (spot n (one x) (d + 1)) ≡ Some (Some x) =
        ap (λ h. slice_get slots (spot n h (d + 1))) (sym home) ∙ s in
        subst (λ h. IsBehind other n slots (spot n h d) d) (sym home) (behind-agree (spot n (one x) d) d (o.order x d l there));
  }

-- Two content functions that agree on the items in slots.
module _ {K V : Type 0} (one other : K → List ℕ) where
  pub contents-same : (slots : List (Option (K × V))) → ((p : K × V) → Has slots p → other p.0 ≡ one p.0)
      → map (λ p. other p.0) (items slots) ≡ map (λ p. one p.0) (items slots)
  contents-same [] same = refl
  contents-same (None ∷ xs) same = contents-same xs (λ p h. same p (suc h.0, h.1))
  contents-same (Some z ∷ xs) same = (λ i. same z (0, refl) i ∷ contents-same xs (λ p h. same p (suc h.0, h.1)) i)

  find-same : (q : List ℕ) (slots : List (Option (K × V))) → ((p : K × V) → Has slots p → other p.0 ≡ one p.0)
      → first_of other (items slots) q ≡ first_of one (items slots) q
  find-same q [] same = refl
  find-same q (None ∷ xs) same = find-same q xs (λ p h. same p (suc h.0, h.1))
  find-same q (Some z ∷ xs) same =
      (λ i. cond (bytes_eq (same z (0, refl) i) q) (Some z) (find-same q xs (λ p h. same p (suc h.0, h.1)) i))

  pub under-agree : (slots : List (Option (K × V))) → ((p : K × V) → Has slots p → other p.0 ≡ one p.0)
      → first_of other (items slots) ≡ first_of one (items slots)
  under-agree slots same = fun_ext (λ q. find-same q slots same)
