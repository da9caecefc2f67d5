-- How contracts see a region.
use Rattle.std.specs.Prelude.{◌≡◌, ℕ, List, ◌++◌, length, take, drop, replicate}

-- all bytes, and the index from which they are ready
pub record Bytes : Type 0 where
  pub items : List ℕ
  pub low : ℕ

abbrev pub bytes : List ℕ → ℕ → Bytes
bytes items low = record { items = items; low = low }

-- bytes that aren't ready are zeros
abbrev pub OnlyZerosBelow : Bytes → Type 0
OnlyZerosBelow b = take b.low b.items ≡ replicate b.low 0

-- The bytes, with a list written over them from this index on. The length doesn't change.
abbrev pub written_from : List ℕ → ℕ → List ℕ → List ℕ
written_from items from list = take (length items) (take from items ++ (list ++ drop (length list) (drop from items)))
