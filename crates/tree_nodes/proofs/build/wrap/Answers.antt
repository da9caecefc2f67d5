use Rattle.std.proofs.Common.{ap, None, [], sym, subst, ◌∷◌}
use Rattle.arena_store.specs.declared.block.Block.{Block}
use Rattle.tree_nodes.specs.Subtrees.{OfExpr, IsRowBuilt}
use Rattle.tree_nodes.proofs.RowLemmas.{row_none}
use Rattle.tree_nodes.proofs.NodeCostLemmas.{first_node}
use Rattle.tree_nodes.specs.TreesAt.{kids_of}
use Rattle.arena_items.specs.Asks.{Fresh, solid, TakesBlock}
use Rattle.arena_vec.specs.declared.vec.Vec.{Vec}
use Rattle.tree_nodes.specs.declared.node.Node.{Node}
use Rattle.tree_nodes.proofs.AskLemmas.{one_taken, one_asked, err_asks}
use Rattle.tree_nodes.proofs.build.wrap.Goals as goal

pub returns-clause-tree : goal.returns-clause-tree
returns-clause-tree g c = λ e old placed.
    let list = c.new_in-list.ensures in
    let none = row_none old c.new_in-list.result (list.held old) (list.list old) (ap (λ (b : Block). b.size) list.block) in (
      c.with_kids.ensures.kind,
      subst (IsRowBuilt (OfExpr e ∷ []) old _) (sym c.with_kids.ensures.kids)
          (c.in_ok-push_node.ensures.row [] (OfExpr e) old old none placed),
      c.with_kids.ensures.rest.0,
      c.with_kids.ensures.rest.1,
    )

pub returns-clause-spends : goal.returns-clause-spends
returns-clause-spends g c =
    first_node c.args.a.now c.push_node.new.a c.new_in-list.result _ None c.new_in-list.ensures.len c.in_ok-push_node.ensures.spends

pub returns-clause-asks : goal.returns-clause-asks
returns-clause-asks g c =
    let list = c.new_in-list.ensures in
    subst (λ (v : Vec Node). TakesBlock (Fresh 88 8) None c.args.a.now c.push_node.new.a (solid v.raw.block)) (sym c.with_kids.ensures.kids)
    (one_taken c.args.a.now c.push_node.new.a (solid c.push_node.new.list.raw.block) c.new_in-list.result.raw.block
    c.new_in-list.result.raw.cap c.new_in-list.result.raw.len (ap (λ (b : Block). b.size) list.block) list.cap list.len
    c.in_ok-push_node.ensures.asks)

pub returns-in_err-push_node-clause-asks : goal.returns-in_err-push_node-clause-asks
returns-in_err-push_node-clause-asks g c =
    let list = c.new_in-list.ensures in
    err_asks (Fresh 88 8) None (λ (u : Unit {0}). (kids_of c.args.node.now).raw.block) c.args.a.now c.push_node.new.a _ _ c.from_residual.ensures
    (one_asked c.new_in-list.result.raw.block c.new_in-list.result.raw.cap c.new_in-list.result.raw.len (ap (λ (b : Block). b.size) list.block) list.cap list.len
    c.in_err-push_node.ensures.asks)
