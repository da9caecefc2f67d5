use Rattle.std.proofs.lemmas.Bool.Decides.{nat_tests}
use Rattle.std.proofs.Common.{[], ◌∷◌, arith}
use Rattle.tree_nodes.proofs.RowLemmas.{rows_more, gathered_one}
use Rattle.tree_nodes.proofs.CloneListLemmas.{never_refused}
use Rattle.tree_nodes.proofs.NodeCostLemmas.{pushed_length}
use Rattle.tree_nodes.proofs.WalkLemmas.{list_len}
use Rattle.tree_nodes.proofs.clone_list.fill.Goals as goal

pub unreachable-requires : goal.unreachable-requires
unreachable-requires g c = grind (arith, nat_tests, never_refused)

pub returns-clause-row : goal.returns-clause-row
returns-clause-row g c = λ ts t old one built placed.
    let grows = c.in-Ok.ensures in
    rows_more ts (t ∷ []) _ _ _ _ _ built (gathered_one t placed) _ _ grows.held grows.list_is grows.frame

pub returns-clause-len : goal.returns-clause-len
returns-clause-len g c = grind (arith, nat_tests, pushed_length, list_len)
