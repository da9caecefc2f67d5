-- Which nodes and names the arena has of trees.
use Rattle.std.specs.Prelude.{◌≡◌, ℕ, List, [], ◌∷◌, ◌++◌, unwrap_or}
use Rattle.arena.specs.Interner.{number_of}
use Rattle.arena.specs.AstRows.{Rows, no_rows, with_node, with_name, last_of}
use Rattle.arena.specs.ByPartsType.{ByParts}
use Rattle.example_language.specs.Meaning.{Expr, Num, Var, Join}
use Rattle.example_language.specs.Nodes.{sign_node}
use Rattle.example_language.specs.declared.nodes.Node.{Node}
use Rattle.example_language.specs.declared.nodes.Node.TheVariants.{Number, Name}

-- the rows with one node more
abbrev pub and_node : Rows (ByParts Node) → Node → Rows (ByParts Node)
and_node rows node = with_node rows (record { 0 = node })

-- The rows with those of a tree behind: those of its operands, and then its own node, which names the last node of each.
abbrev pub placed : Expr → Rows (ByParts Node) → Rows (ByParts Node)
placed (Num n) rows = and_node rows (Number n)
placed (Var name) rows =
    let named = with_name rows name in and_node named (Name (unwrap_or (number_of named.names name) 0))
placed (Join sign l r) rows =
    let left = placed l rows in let right = placed r left in and_node right (sign_node sign (last_of left) (last_of right))

-- the rows of trees, of which the last comes first, and the index of each
abbrev pub all_placed : List Expr → Rows (ByParts Node)
all_placed [] = no_rows
all_placed (tree ∷ trees) = placed tree (all_placed trees)

abbrev pub tops : List Expr → List ℕ
tops [] = []
tops (tree ∷ trees) = tops trees ++ last_of (all_placed (tree ∷ trees)) ∷ []

-- A tree that is built from left to right: some trees are placed, and the index of each is on a stack.
pub record ArePlaced (rows : Rows (ByParts Node)) (stack : List ℕ) (trees : List Expr) : Type 0 where
  pub rows_are : rows ≡ all_placed trees
  pub stack_is : stack ≡ tops trees
