-- The values of nodes and of trees, without an arena.
use Rattle.std.specs.Prelude.{ℕ, ◌+◌, ◌-◌, ◌*◌, ◌%◌, ◌^◌, List, [], ◌∷◌, ◌++◌, Option, Some, None, slice_get, slice_index, length}
use Rattle.std.specs.Option.{option_and_then}
use Rattle.arena.specs.Interner.{number_of}
use Rattle.arena.specs.ByPartsType.{ByParts}
use Rattle.example_language.specs.Meaning.{Expr, Num, Var, Join}
use Rattle.example_language.specs.declared.nodes.Node.{Node}
use Rattle.example_language.specs.declared.nodes.Node.TheVariants.{Number, Name, Sum, Product}
use Rattle.example_language.specs.declared.nodes.Sign.{Sign}
use Rattle.example_language.specs.declared.nodes.Sign.TheVariants.{Plus, Times}

-- modulo 2^32
abbrev pub combined : Sign → ℕ → ℕ → ℕ
combined Plus a b = (a + b) % 2 ^ 32
combined Times a b = (a * b) % 2 ^ 32

-- the value of a node, from the values of the names and of the nodes before it
abbrev pub node_value : List ℕ → List ℕ → Node → Option ℕ
node_value names before (Number n) = Some n
node_value names before (Name n) = slice_get names n
node_value names before (Sum m n) = Some (combined Plus (slice_index before m) (slice_index before n))
node_value names before (Product m n) = Some (combined Times (slice_index before m) (slice_index before n))

-- the values of the nodes before these and of these; `None` if a name has no value
abbrev pub values_after : List ℕ → List ℕ → List (ByParts Node) → Option (List ℕ)
values_after names before [] = Some before
values_after names before (n ∷ ns) =
    option_and_then (λ (v : ℕ). values_after names (before ++ v ∷ []) ns) (node_value names before n.0)

abbrev pub last_value : List ℕ → Option ℕ
last_value values = slice_get values (length values - 1)

-- the value of a list of nodes: that of the last one
abbrev pub value_of : List ℕ → List (ByParts Node) → Option ℕ
value_of names nodes = option_and_then last_value (values_after names [] nodes)

-- ---- Trees

-- two values by a sign, if both are there
abbrev pub both : Sign → Option ℕ → Option ℕ → Option ℕ
both sign (Some a) (Some b) = Some (combined sign a b)
both sign a b = None

-- the value of a tree, from those of these names; `None` if a name has no value
abbrev pub tree_value : List ℕ → List (List ℕ) → Expr → Option ℕ
tree_value values names (Num n) = Some n
tree_value values names (Var name) = option_and_then (slice_get values) (number_of names name)
tree_value values names (Join sign l r) = both sign (tree_value values names l) (tree_value values names r)
