use Rattle.arena_kinds.proofs.Layers.{all_turned}
use Rattle.arena_vec.specs.Vecs.{vec_list}
use Rattle.arena_tree.specs.Folding.{footprint}
use Rattle.arena_tree.specs.TreesAt.{node_item}
use Rattle.tree_nodes.proofs.OneTreeLemmas.{one_stmts}
use Rattle.arena_tree.proofs.WholeTreeLemmas.{tree_readable, tree_stays, tree_beside, tree_back, lists_apart}
use Rattle.arena_tree.proofs.laws.tree_law.Goals as goal

pub returns-clause-stays : goal.returns-clause-stays
returns-clause-stays c = tree_stays

pub returns-clause-placed : goal.returns-clause-placed
returns-clause-placed c = tree_beside

pub returns-clause-back : goal.returns-clause-back
returns-clause-back c = tree_back

pub returns-clause-readable : goal.returns-clause-readable
returns-clause-readable c = tree_readable

pub returns-clause-one : goal.returns-clause-one
returns-clause-one c = λ m t trees same. one_stmts trees same m (vec_list node_item m t.stmts)

pub returns-clause-turned : goal.returns-clause-turned
returns-clause-turned c = λ m t trees others. all_turned (footprint trees m t) others

pub returns-clause-lists : goal.returns-clause-lists
returns-clause-lists c = lists_apart
