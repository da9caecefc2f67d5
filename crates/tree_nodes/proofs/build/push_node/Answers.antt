use Rattle.std.proofs.lemmas.Bool.Decides.{nat_tests}
use Rattle.std.proofs.lemmas.Result.{on_ok_weaker}
use Rattle.tree_nodes.proofs.RowLemmas.{rows_more, gathered_one}
use Rattle.std.proofs.Common.{◌+◌, sym, subst, refl, [], ◌∷◌, arith}
use Rattle.arena_items.proofs.Layers.{length-elements}
use Rattle.arena_vec.specs.Vecs.{vec_list}
use Rattle.tree_nodes.specs.Layouts.{IsDoubled}
use Rattle.tree_nodes.specs.TreesAt.{node_item}
use Rattle.tree_nodes.proofs.NodeCostLemmas.{Paid, node_spends, cap_doubled, pushed_length}
use Rattle.tree_nodes.proofs.AskLemmas.{grows_asks}
use Rattle.tree_nodes.proofs.build.push_node.Given.{Over}
use Rattle.tree_nodes.proofs.build.push_node.Goals as goal

paid : (g : Over) (c : goal.After-push g) → Paid
paid g c = grind (arith, nat_tests)

pub returns-clause-row : goal.returns-clause-row
returns-clause-row g c = λ ts t old one built placed.
    let push = c.push.ensures in
    on_ok_weaker c.push.result (λ list. rows_more ts (t ∷ []) _ _ _ _ _ built (gathered_one t placed) _ _ push.held list push.frame) push.list_is

pub returns-clause-spends : goal.returns-clause-spends
returns-clause-spends g c =
    node_spends (paid g c) c.args.a.now c.push.new.a c.args.list.now c.push.new.list _ c.known.ensures.state c.requires.held 1 (omega arith) (omega (arith, c.requires.few))
    (pushed_length (vec_list node_item c.args.a.now.memory c.args.list.now) (c.args.node.now ∷ []) c.args.list.now.raw.len
    (length-elements 88 node_item.decoded c.args.list.now.raw.len _))
    c.push.result c.push.ensures

pub returns-clause-len : goal.returns-clause-len
returns-clause-len g c = grind (arith, nat_tests, on_ok_weaker, pushed_length, length-elements)

pub returns-clause-cap : goal.returns-clause-cap
returns-clause-cap g c = λ doubled.
    let after = cap_doubled (paid g c) c.args.list.now.raw.len c.args.list.now.raw.cap 1 (omega (arith, c.requires.few)) 0 refl c.requires.held.within doubled in
    on_ok_weaker c.push.result (λ is. subst (IsDoubled 1) (sym is) after) c.push.ensures.cap

pub returns-clause-asks : goal.returns-clause-asks
returns-clause-asks g c = grows_asks _ c.requires.held c.push.result
    ((paid g c).fits c.args.a.now c.push.new.a c.args.list.now c.push.new.list (c.args.list.now.raw.len + 1) _ c.push.result (omega (arith, c.requires.few))
    (omega (arith, c.requires.few)) c.push.ensures) c.push.ensures
