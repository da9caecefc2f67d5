-- Copies of a list of numbers.
use Rattle.std.proofs.Common.{List, [], ◌∷◌}
use Rattle.std.specs.List.{AllByRecursion}

-- Plain values have no conditions to be held.
pub all_plain : {A : Type 0} (xs : List A) → AllByRecursion (λ (x : A). Unit {0}) xs
all_plain [] = tt
all_plain (x ∷ xs) = (tt, all_plain xs)
