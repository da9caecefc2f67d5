-- How much room is enough for texts one after another.
use Rattle.std.specs.Prelude.{ℕ, ◌+◌, List, [], ◌∷◌}

-- the rooms of all of these together
abbrev pub rooms : {A : Type 0} → (A → ℕ) → List A → ℕ
rooms room [] = 0
rooms room (x ∷ xs) = room x + rooms room xs
