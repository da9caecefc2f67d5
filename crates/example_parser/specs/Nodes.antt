-- Which nodes come after their operands.
use Rattle.std.specs.Prelude.{ℕ, ◌<◌}
use Rattle.example_parser.specs.declared.nodes.Node.{Node}
use Rattle.example_parser.specs.declared.nodes.Node.TheVariants.{Number, Name, Sum, Product}

-- The operands of a node that is at this index come before it.
abbrev pub IsAfter : ℕ → Node → Type 0
IsAfter at (Number n) = Unit {0}
IsAfter at (Name n) = Unit {0}
IsAfter at (Sum m n) = (m < at) × (n < at)
IsAfter at (Product m n) = (m < at) × (n < at)
