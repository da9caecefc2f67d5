-- What parsing a text gives: its tree, its first error, or a refusal.
use Rattle.std.specs.Prelude.{◌≡◌, ℕ, ◌⊎◌, List, ◌∷◌, ◌++◌, Some, Result, Ok, Err}
use Rattle.arena.specs.AllocErrorType.{AllocError}
use Rattle.arena.specs.AstRows.{Rows, no_rows, NodeRefused, NameRefused}
use Rattle.arena.specs.AstType.{Ast}
use Rattle.arena.specs.ByPartsType.{ByParts}
use Rattle.arena.specs.Memory.{Memory}
use Rattle.arena.specs.Source.{View}
use Rattle.example_language.specs.Grammar.{SpellAll}
use Rattle.example_language.specs.Meaning.{Expr, token_of, fitting, applied, words_of, spaced, reading}
use Rattle.example_language.specs.Placing.{and_node, placed, all_placed, ArePlaced}
use Rattle.example_language.specs.Placing.{tops}
use Rattle.example_language.specs.Trees.{node_item, rows_in, Moved, IsBuilt}
use Rattle.example_language.specs.declared.nodes.Node.{Node}
use Rattle.example_language.specs.declared.parsing.ParseErr.{ParseErr}
use Rattle.example_language.specs.declared.parsing.ParseErr.TheVariants.{Refused}
use Rattle.example_language.specs.declared.parsing.Token.{Token}
use Rattle.example_language.specs.declared.parsing.Token.TheVariants.{Name}

-- an error that is given, or a refusal for this reason
abbrev pub Fails : {X : Type 0} → Result X ParseErr → (AllocError → Type 0) → ParseErr → Type 0
Fails given Stops (Refused error) = Stops error
Fails given Stops e = given ≡ Err e

-- ---- A word

-- With this node the tree of a token is placed, behind those that don't become part of it.
pub record Completes (token : Token) (word : List ℕ) (at : ℕ) (rows : Rows (ByParts Node)) (stack : List ℕ) (trees : List Expr)
    (node : Node) : Type 0 where
  pub tree : Expr
  pub others : List Expr
  pub applies : applied (Some token) word at trees ≡ fitting at (tree ∷ others)
  pub rows_are : and_node rows node ≡ placed tree (all_placed others)
  pub stack_is : stack ≡ tops others

-- The trees that the word makes are placed.
pub record ReadsWord (word : List ℕ) (at : ℕ) (trees : List Expr) (rows : Rows (ByParts Node)) (stack : List ℕ) : Type 0 where
  pub more : List Expr
  pub applies : applied (token_of word) word at trees ≡ Ok more
  pub placed : ArePlaced rows stack more

-- With one node more, the trees that the word makes would have been placed, and that node was refused.
pub record RefusesNode (word : List ℕ) (at : ℕ) (trees : List Expr) (old new : View) (tree : Ast (ByParts Node)) (error : AllocError)
    : Type 0 where
  pub more : List Expr
  pub applies : applied (token_of word) word at trees ≡ Ok more
  pub before : View
  pub named : Ast (ByParts Node)
  pub moved : Moved old before tree named
  pub node : Node
  pub rows_are : and_node (rows_in before.memory named) node ≡ all_placed more
  pub refused : NodeRefused node_item before new named (record { 0 = node }) error

-- The name or the node of a word was refused.
abbrev pub RefusesWord : List ℕ → ℕ → List Expr → View → View → Ast (ByParts Node) → AllocError → Type 0
RefusesWord word at trees old new tree error =
    ((token_of word ≡ Some Name) × NameRefused old new tree word error) ⊎ RefusesNode word at trees old new tree error

-- ---- A text

-- The words before were placed as trees, and the arena refused the next one.
pub record StopsAt (text : List ℕ) (old new : View) (error : AllocError) : Type 0 where
  pub seen : List (List ℕ)
  pub word : List ℕ
  pub later : List (List ℕ)
  pub words_are : words_of text ≡ seen ++ word ∷ later
  pub trees : List Expr
  pub spelled : SpellAll trees seen
  pub before : View
  pub tree : Ast (ByParts Node)
  pub built : IsBuilt old before tree
  pub rows_are : rows_in before.memory tree ≡ all_placed trees
  pub refused : RefusesWord word (spaced seen) trees before new tree error

-- The tree is that of the text.
abbrev pub IsOfText : List ℕ → Memory → Ast (ByParts Node) → Type 0
IsOfText text memory tree = (expr : Expr) × (reading text ≡ Ok expr) × (rows_in memory tree ≡ placed expr no_rows)
