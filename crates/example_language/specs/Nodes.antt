-- Which nodes come after their operands, and the node of two trees that a sign joins.
use Rattle.std.specs.Prelude.{ℕ, ◌<◌}
use Rattle.example_language.specs.declared.nodes.Node.{Node}
use Rattle.example_language.specs.declared.nodes.Node.TheVariants.{Number, Name, Sum, Product}
use Rattle.example_language.specs.declared.nodes.Sign.{Sign}
use Rattle.example_language.specs.declared.nodes.Sign.TheVariants.{Plus, Times}

-- The operands of a node that is at this index come before it.
abbrev pub IsAfter : ℕ → Node → Type 0
IsAfter at (Number n) = Unit {0}
IsAfter at (Name n) = Unit {0}
IsAfter at (Sum m n) = (m < at) × (n < at)
IsAfter at (Product m n) = (m < at) × (n < at)

abbrev pub sign_node : Sign → ℕ → ℕ → Node
sign_node Plus m n = Sum m n
sign_node Times m n = Product m n
