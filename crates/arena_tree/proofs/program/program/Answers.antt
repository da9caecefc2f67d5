use Rattle.std.proofs.lemmas.Bool.Decides.{nat_tests}
use Rattle.std.proofs.Common.{arith}
use Rattle.tree_nodes.proofs.SpendingLemmas.{spends_more}
use Rattle.arena_tree.proofs.LineLemmas.{ends_all, more_left}
use Rattle.arena_tree.proofs.PartCostLemmas.{text_stops}
use Rattle.arena_tree.proofs.PartRunLemmas.{program_ran}
use Rattle.std.specs.Prelude.{ℕ, None}
use Rattle.arena_vec.specs.declared.vec.Vec.{Vec}
use Rattle.tree_nodes.specs.declared.node.Node.{Node}
use Rattle.arena_tree.proofs.EndLemmas.{err_ends, program_up}
use Rattle.arena_tree.proofs.program.program.Goals as goal

pub returns-in-None-clause-trees : goal.returns-in-None-clause-trees
returns-in-None-clause-trees g c = ends_all c.in_ok-list.ensures.trees.0 c.in-None.ensures.none

pub returns-in-Some-clause-text : goal.returns-in-Some-clause-text
returns-in-Some-clause-text g c = grind (arith, nat_tests, more_left)

pub returns-in-None-clause-spends : goal.returns-in-None-clause-spends
returns-in-None-clause-spends g c =
    let k = c.in_ok-list.ensures in
    spends_more k.spends (omega (arith, k.trees.0.within)) (omega (arith, k.trees.0.within))

pub returns-in-Some-clause-spends : goal.returns-in-Some-clause-spends
returns-in-Some-clause-spends g c =
    let k = c.in_ok-list.ensures in
    text_stops k.spends k.trees.0.built.frame (omega (arith, k.trees.0.within))

pub returns-in-None-clause-ran : goal.returns-in-None-clause-ran
returns-in-None-clause-ran g c = program_ran c.in_ok-list.ensures.ran c.in-None.ensures.none

pub returns-in_err-list-clause-ends : goal.returns-in_err-list-clause-ends
returns-in_err-list-clause-ends g c p is =
    err_ends (Vec Node × ℕ) _ _ _ c.from_residual.ensures (c.in_err-list.ensures.ends None p c.args.a.now (program_up is))
