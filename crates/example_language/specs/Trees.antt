-- Trees of this language's nodes in an arena.
use Rattle.std.specs.Prelude.{ℕ}
use Rattle.arena.specs.AstLaws.{ast_kind}
use Rattle.arena.specs.AstRows as rows
use Rattle.arena.specs.AstType.{Ast}
use Rattle.arena.specs.Asts as asts
use Rattle.arena.specs.ByPartsType.{ByParts}
use Rattle.arena.specs.Forms.{by_parts, pair_item, byte, word}
use Rattle.arena.specs.ItemTrait.{Ghosts}
use Rattle.arena.specs.Memory.{Memory}
use Rattle.arena.specs.Source.{View}
use Rattle.arena.specs.VecType.{Vec}
use Rattle.example_language.specs.Nodes.{IsAfter}
use Rattle.example_language.specs.contracts.nodes.NodeParts.TheImpl.{ghosts}
use Rattle.example_language.specs.declared.nodes.Node.{Node}

-- the byte form of a node, and which one may be at an index, as proofs name them
abbrev pub node_item : Ghosts (ByParts Node)
node_item = by_parts (pair_item byte (pair_item word word)) ghosts.parts ghosts.whole

abbrev pub is_after : ℕ → ByParts Node → Type 0
is_after at node = IsAfter at node.0

abbrev pub AreNodesIn : Memory → Vec (ByParts Node) → Type 0
AreNodesIn = asts.AreNodesIn node_item is_after

abbrev pub IsTreeIn : Memory → Ast (ByParts Node) → Type 0
IsTreeIn = asts.IsAstIn node_item is_after

abbrev pub rows_in : Memory → Ast (ByParts Node) → rows.Rows (ByParts Node)
rows_in = rows.rows_in node_item

-- what a call on a tree leaves, and a tree that was placed since then
abbrev pub Moved : View → View → Ast (ByParts Node) → Ast (ByParts Node) → Type 0
Moved = asts.Moved (ast_kind node_item is_after)

abbrev pub IsBuilt : View → View → Ast (ByParts Node) → Type 0
IsBuilt = asts.IsBuilt (ast_kind node_item is_after)
