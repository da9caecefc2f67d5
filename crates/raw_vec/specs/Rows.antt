-- Parts of lists.
use Rattle.std.specs.Prelude.{ℕ, List, take, drop}

-- the values from one place up to another
unfoldable pub window : {T : Type 0} → List T → ℕ → ℕ → List T
window xs from to = drop from (take to xs)
