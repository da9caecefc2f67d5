-- What names hold, where the values of the first names are in a list.
use Rattle.std.specs.Prelude.{◌≡◌, ℕ, ◌+◌, ◌<◌, Option, None, Some, List, [], ◌∷◌}
use Rattle.std.specs.Ordering.{nat_cmp}
use Rattle.std.specs.FinMap.{FinMap, insert, get}

-- the values of the names from this one on, and what the others hold
abbrev pub named_with : {X : Type 0} → ℕ → List (Option X) → FinMap nat_cmp X → FinMap nat_cmp X
named_with name [] others = others
named_with name (None ∷ values) others = named_with (name + 1) values others
named_with name (Some v ∷ values) others = insert (named_with (name + 1) values others) name v

-- no name below this number has a value
abbrev pub HasNoneBelow : {X : Type 0} → ℕ → FinMap nat_cmp X → Type 0
HasNoneBelow n named = (name : ℕ) → name < n → get named name ≡ None
