use Rattle.std.proofs.Common.{ap, true, false, Some, None}
use Rattle.arena_tree.specs.Subtrees.{OfExpr, has_kids}
use Rattle.tree_nodes.proofs.SubtreeLemmas.{kids_at}
use Rattle.arena_tree.proofs.FoldRuleLemmas.{other_stays, negation_is, neg_rule, inner_lean, total_rule, total_lean}
use Rattle.arena_tree.proofs.fold.rule.Goals as goal

pub only_kid-kid-requires : goal.only_kid-kid-requires
only_kid-kid-requires g c = negation_is c.requires.tree c.args.a.now.memory c.args.node c.requires.stands c.in-Neg.is

pub only_kid-requires : goal.only_kid-requires
only_kid-requires g c =
    let own = negation_is c.requires.tree c.args.a.now.memory c.args.node c.requires.stands c.in-Neg.is in
    negation_is (OfExpr own.kid) c.args.a.now.memory c.only_kid-kid.result (rw c.only_kid-kid.ensures at own.stands.2) c.in-Neg-kind.is

pub total_node-requires : goal.total_node-requires
total_node-requires g c = (kids_at c.requires.tree _ _ c.requires.stands (ap has_kids c.in-Sum.is)).held

pub total_node-requires-in-Prod : goal.total_node-requires-in-Prod
total_node-requires-in-Prod g c = (kids_at c.requires.tree _ _ c.requires.stands (ap has_kids c.in-Prod.is)).held

pub returns-in-Neg-kind-clause-rule : goal.returns-in-Neg-kind-clause-rule
returns-in-Neg-kind-clause-rule g c =
    neg_rule _ _ _ (Some c.only_kid.result) c.in-Neg.is c.only_kid-kid.ensures (c.in-Neg-kind.is, c.only_kid.ensures)

pub returns-in_default-kind-clause-rule : goal.returns-in_default-kind-clause-rule
returns-in_default-kind-clause-rule g c =
    neg_rule _ _ _ None c.in-Neg.is c.only_kid-kid.ensures c.in_default-kind.not-Neg

pub returns-in_default-clause-rule : goal.returns-in_default-clause-rule
returns-in_default-clause-rule g c =
    other_stays c.args.a.now.memory c.args.node c.in_default.not-Neg c.in_default.not-Sum c.in_default.not-Prod

pub returns-in-Sum-clause-rule : goal.returns-in-Sum-clause-rule
returns-in-Sum-clause-rule g c = total_rule false c.args.a.now.memory c.args.node c.total_node.result c.in-Sum.is c.total_node.ensures.total

pub returns-in-Prod-clause-rule : goal.returns-in-Prod-clause-rule
returns-in-Prod-clause-rule g c = total_rule true c.args.a.now.memory c.args.node c.total_node-in-Prod.result c.in-Prod.is c.total_node-in-Prod.ensures.total

pub returns-in-Neg-kind-clause-lean : goal.returns-in-Neg-kind-clause-lean
returns-in-Neg-kind-clause-lean g c = λ lean.
    inner_lean c.args.a.now.memory c.args.node c.only_kid-kid.result c.only_kid.result c.only_kid-kid.ensures c.only_kid.ensures lean

pub returns-in-Sum-clause-lean : goal.returns-in-Sum-clause-lean
returns-in-Sum-clause-lean g c = λ lean. total_lean c.args.a.now.memory c.total_node.result c.total_node.ensures.number

pub returns-in-Prod-clause-lean : goal.returns-in-Prod-clause-lean
returns-in-Prod-clause-lean g c = λ lean. total_lean c.args.a.now.memory c.total_node-in-Prod.result c.total_node-in-Prod.ensures.number
