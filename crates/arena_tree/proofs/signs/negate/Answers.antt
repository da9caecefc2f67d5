use Rattle.std.proofs.Common.{refl}
use Rattle.std.proofs.lemmas.Result.{on_ok_weaker}
use Rattle.tree_rules.specs.Trees.{NoExprs, And}
use Rattle.tree_nodes.proofs.BuildLemmas.{neg_placed}
use Rattle.tree_nodes.proofs.RowLemmas.{exprs_built}
use Rattle.arena_tree.proofs.signs.negate.Goals as goal

pub returns-clause-tree : goal.returns-clause-tree
returns-clause-tree g c = λ e old placed.
    on_ok_weaker c.wrap.result (λ n. neg_placed e old _ _ _ (exprs_built (And e NoExprs) _ _ _ n.1) n.0 refl (n.2, n.3))
    (c.wrap.ensures.tree e old placed)
