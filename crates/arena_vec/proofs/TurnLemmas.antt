-- A closure that can be called at each value of a list in turn.
use Rattle.std.proofs.Common.{◌≡◌, List, [], ◌∷◌, refl}
use Rattle.std.specs.Array.{list_steps}
use Rattle.std.specs.Iterator.{CallableAtEachTurn}

module _ {X P : Type 0} {R : P → X → P → Type 0} {Q : P → X → Type 0} {p : P} {x : X} {xs rest : List X} (first : xs ≡ x ∷ rest)
    (h : CallableAtEachTurn list_steps R Q xs p) where
  -- It can be called at the first,
  pub turn_now : Q p x
  turn_now = h.at [] xs p x rest refl refl first

  -- and then at each of the others.
  pub turn_on : (q : P) → R p x q → CallableAtEachTurn list_steps R Q rest q
  turn_on q r = record { at = λ zs t v z u a b c. h.at (x ∷ zs) t v z u (rest, first, a) (q, r, b) c }
