-- What can be decided: numbers, bytes, and facts that consist of such.
use Rattle.std.proofs.Common.{◌≡◌, ℕ, ◌<◌, ◌^◌, Bool, true, false, List, [], ◌∷◌, inl, inr, refl}
use Rattle.std.specs.Prelude.{◌⊎◌, nat_eq, nat_lt}
use Rattle.std.specs.Bool.{Decides}
use Rattle.std.specs.List.{AllByRecursion}
use Rattle.std.specs.Cmp.Lexicographic.{pointwise, bytes_decides}
use Rattle.std.proofs.lemmas.Bool.Decides.{Decides-ltb, not_from_Decides}
use Rattle.line_parts.specs.Numbers.{IsByte}

abbrev pub Decided : Type 0 → Type 0
Decided P = P ⊎ (P → ⊥)

-- what a test decides
pub tested : {P : Type 0} (r : Bool) → Decides r P → Decided P
tested true d = inl (d.0 refl)
tested false d = inr (not_from_Decides false d refl)

pub both : {P Q : Type 0} → Decided P → Decided Q → Decided (P × Q)
both (inl p) (inl q) = inl (p, q)
both (inl p) (inr none) = inr (λ h. none h.1)
both (inr none) q = inr (λ h. none h.0)

-- two facts that follow from each other
pub turned : {P Q : Type 0} → (P → Q) → (Q → P) → Decided P → Decided Q
turned to back (inl p) = inl (to p)
turned to back (inr none) = inr (λ q. none (back q))

pub three : {P Q R : Type 0} → Decided P → Decided Q → Decided R → Decided (P × Q × R)
three p q r = turned (λ h. (h.0, h.1.0, h.1.1)) (λ h. (h.0, (h.1, h.2))) (both p (both q r))

pub four : {P Q R S : Type 0} → Decided P → Decided Q → Decided R → Decided S → Decided (P × Q × R × S)
four p q r s = turned (λ h. (h.0.0, h.0.1, h.1.0, h.1.1)) (λ h. ((h.0, h.1), (h.2, h.3))) (both (both p q) (both r s))

pub below : (n m : ℕ) → Decided (n < m)
below n m = tested (nat_lt n m) (Decides-ltb n m)

pub are_bytes : (bytes : List ℕ) → Decided (AllByRecursion IsByte bytes)
are_bytes [] = inl tt
are_bytes (b ∷ bytes) = both (below b (2 ^ 8)) (are_bytes bytes)

pub same : (xs ys : List ℕ) → Decided (xs ≡ ys)
same xs ys = tested (pointwise nat_eq xs ys) (bytes_decides xs ys)
