-- What copying nodes to another arena gives.
use Rattle.std.specs.Prelude.{◌≡◌, ◌⊎◌, ℕ, List}
use Rattle.arena.specs.AllocErrorType.{AllocError}
use Rattle.arena.specs.AstRows as rows
use Rattle.arena.specs.AstType.{Ast}
use Rattle.arena.specs.ByPartsType.{ByParts}
use Rattle.arena.specs.Source.{View}
use Rattle.arena.specs.VecType.{Vec}
use Rattle.example_language.specs.Meaning.{reading}
use Rattle.example_language.specs.Parsing.{Fails, IsOfText, StopsAt}
use Rattle.example_language.specs.Trees.{node_item, IsBuilt}
use Rattle.example_language.specs.declared.nodes.Node.{Node}
use Rattle.example_language.specs.declared.parsing.ParseErr.{ParseErr}
use Rattle.example_language.specs.declared.parsing.ParseErr.TheVariants.{Refused}

-- The arena was asked for one block with place for all nodes, and refused it.
abbrev pub CopyRefused : View → View → Vec (ByParts Node) → AllocError → Type 0
CopyRefused = rows.CopyRefused node_item

-- The tree of a text was built in one arena, and the copy of its nodes was refused by another.
pub record StopsAtCopy (first after other new : View) (text : List ℕ) (e : ParseErr) : Type 0 where
  pub tree : Ast (ByParts Node)
  pub built : IsBuilt first after tree
  pub parsed : IsOfText text after.memory tree
  pub error : AllocError
  pub reported : e ≡ Refused error
  pub refused : CopyRefused other new tree.nodes error

-- why the nodes of a text aren't kept: it wasn't parsed, and the other arena is as it was; or they weren't copied
abbrev pub NotKept : View → View → View → View → List ℕ → ParseErr → Type 0
NotKept first after other new text e =
    (Fails (reading text) (StopsAt text first after) e × (new ≡ other)) ⊎ StopsAtCopy first after other new text e
