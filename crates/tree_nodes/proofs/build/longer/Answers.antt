use Rattle.std.proofs.lemmas.Bool.Decides.{nat_tests}
use Rattle.std.proofs.Common.{sym, subst, Ok, Err, arith}
use Rattle.arena_items.proofs.Layers.{length-elements}
use Rattle.arena_vec.specs.Vecs.{vec_list}
use Rattle.tree_nodes.specs.Layouts.{IsDoubled}
use Rattle.tree_nodes.specs.Subtrees.{IsRowBuilt}
use Rattle.tree_nodes.specs.TreesAt.{node_item}
use Rattle.tree_nodes.proofs.RowLemmas.{rows_more}
use Rattle.tree_nodes.proofs.NodeCostLemmas.{Paid, node_spends, cap_doubled, pushed_length}
use Rattle.tree_nodes.proofs.AskLemmas.{grows_asks}
use Rattle.tree_nodes.proofs.build.longer.Given.{Over}
use Rattle.tree_nodes.proofs.build.longer.Goals as goal

paid : (g : Over) (c : goal.In-Ok g) → Paid
paid g c = grind (arith, nat_tests)

pub returns-in-Ok-clause-row : goal.returns-in-Ok-clause-row
returns-in-Ok-clause-row g c = λ ts old read.
    let grows = c.in-Ok.ensures in
    subst (λ rs. IsRowBuilt rs old c.extend_from_slice.new.a.memory c.extend_from_slice.new.self) (sym read.all)
    (rows_more read.front read.back old read.between _ _ _ read.built read.gathered _ _ grows.held grows.list_is grows.frame)

pub returns-in-Ok-clause-spends : goal.returns-in-Ok-clause-spends
returns-in-Ok-clause-spends g c =
    let v = c.args.list in
    let m = c.args.a.now.memory in
    node_spends (paid g c) c.args.a.now c.extend_from_slice.new.a v c.extend_from_slice.new.self _ c.known.ensures.state c.requires.held _ c.requires.some
    (omega (arith, c.requires.few))
    (pushed_length (vec_list node_item m v) c.args.nodes.now v.raw.len (length-elements 88 node_item.decoded v.raw.len _))
    (Ok c.in-Ok.field-0) c.in-Ok.ensures

pub returns-in-Ok-clause-len : goal.returns-in-Ok-clause-len
returns-in-Ok-clause-len g c = grind (arith, nat_tests, pushed_length, length-elements)

pub returns-in-Ok-clause-cap : goal.returns-in-Ok-clause-cap
returns-in-Ok-clause-cap g c = λ power many doubled.
    let v = c.args.list in
    subst (IsDoubled _) (sym c.in-Ok.ensures.cap) (cap_doubled (paid g c) v.raw.len v.raw.cap _ (omega (arith, c.requires.few)) power many c.requires.held.within doubled)

pub returns-in-Err-clause-spends : goal.returns-in-Err-clause-spends
returns-in-Err-clause-spends g c = grind (arith, nat_tests, node_spends, pushed_length, length-elements)

pub returns-in-Ok-clause-asks : goal.returns-in-Ok-clause-asks
returns-in-Ok-clause-asks g c = grows_asks _ c.requires.held (Ok c.in-Ok.field-0)
    (c.vector_costs.ensures.fits _ _ _ _ _ _ (Ok c.in-Ok.field-0) (omega (arith, c.requires.few)) (omega (arith, c.requires.few)) c.in-Ok.ensures) c.in-Ok.ensures

pub returns-in-Err-clause-asks : goal.returns-in-Err-clause-asks
returns-in-Err-clause-asks g c = grows_asks _ c.requires.held (Err c.in-Err.e)
    (c.vector_costs.ensures.fits _ _ _ _ _ _ (Err c.in-Err.e) (omega (arith, c.requires.few)) (omega (arith, c.requires.few)) c.in-Err.ensures) c.in-Err.ensures
