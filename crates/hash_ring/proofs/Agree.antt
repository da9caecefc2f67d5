-- Slots under two home functions or two content functions that agree on the items in them.
use Rattle.std.proofs.lemmas.Bool.Decides.{nat_tests}
use Rattle.std.proofs.Common.{arith, ◌≡◌, ℕ, List, sym, ◌∙◌, Option}
use Rattle.hash_ring.specs.Slots.{Has, IsOnce}
use Rattle.hash_ring.proofs.Close.{Closing}

-- no content occurs twice
pub once-agree : {X : Type 0} (one other : X → List ℕ) (slots : List (Option X)) → ((x : X) → Has slots x → other x ≡ one x)
    → IsOnce one slots → IsOnce other slots
once-agree one other slots same once i j x y s t e = once i j x y s t (sym (same x (i, s)) ∙ (e ∙ same y (j, t)))

-- a gap that is being closed
pub closing-agree : {X : Type 0} (one other : X → ℕ) (n start : ℕ) (from : List (Option X)) (steps : ℕ) (slots : List (Option X)) (at : ℕ)
    → ((x : X) → Has slots x → other x ≡ one x) → Closing one n start from steps slots at → Closing other n start from steps slots at
closing-agree one other n start from steps slots at same c = grind (arith, nat_tests)
