-- What a tree's handle means, as proofs name it.
use Rattle.std.specs.Prelude.{ℕ}
use Rattle.arena_ast.specs.laws.AstLaws.{ast_kind, beside_kind, indices_kind}
use Rattle.arena_ast.specs.Forms.{by_parts, pair_item, byte, word}
use Rattle.arena_ast.specs.declared.ast.Ast.{Ast}
use Rattle.arena_ast.specs.declared.by_parts.ByParts.{ByParts}
use Rattle.arena_items.specs.declared.beside.Beside.{Beside}
use Rattle.arena_items.specs.declared.values.InArena.{Ghosts}
use Rattle.arena_vec.specs.declared.vec.Vec.{Vec}
use Rattle.example_parser.specs.Nodes.{IsAfter}
use Rattle.example_parser.specs.contracts.calls.TermParts.TheImpl.{ghosts as term}
use Rattle.example_parser.specs.declared.calls.Term.{Term}
use Rattle.example_parser.specs.contracts.nodes.NodeParts.TheImpl.{ghosts}
use Rattle.example_parser.specs.declared.nodes.Node.{Node}

abbrev pub tree_kind : Ghosts (Ast (ByParts Node))
tree_kind = ast_kind (by_parts (pair_item byte (pair_item word word)) ghosts.parts ghosts.whole) (λ at node. IsAfter at node.0)

-- a tree of calls, with the list of operands beside it
abbrev pub calls_kind : Ghosts (Beside (Ast (ByParts Term)) (Vec ℕ))
calls_kind = beside_kind (ast_kind (by_parts (pair_item byte (pair_item word (pair_item word word))) term.parts term.whole)
    (λ at node. Unit {0})) indices_kind
