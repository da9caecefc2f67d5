use Rattle.std.proofs.lemmas.Bool.Decides.{nat_tests}
use Rattle.std.proofs.Common.{◌≡◌, ◌≢◌, ◌+◌, length, sym, subst, arith}
use Rattle.arena_items.specs.Asks.{room_ask, solid}
use Rattle.std.specs.Prelude.{IfOk}
use Rattle.arena_items.specs.Room.{capacity_after}
use Rattle.arena_items.specs.declared.room.Growth.{Growth}
use Rattle.arena_vec.specs.declared.vec.Vec.{Vec}
use Rattle.tree_nodes.specs.declared.node.Node.{Node}
use Rattle.tree_nodes.specs.Asking.{AsksFor}
use Rattle.tree_nodes.proofs.RowLemmas.{read_all}
use Rattle.tree_nodes.proofs.NodeCostLemmas.{list_spends}
use Rattle.tree_nodes.proofs.AskLemmas.{no_block, first_asks, first_grown, later_growth}
use Rattle.tree_nodes.proofs.build.with_more.Goals as goal

pub returns-then-capacity-eq0-clause-row : goal.returns-then-capacity-eq0-clause-row
returns-then-capacity-eq0-clause-row g c = λ ts old read.
    c.list_of.ensures.row ts old (read_all read (omega (arith, c.requires.held.within, c.capacity.ensures, c.if-capacity-eq0.true)))

pub returns-then-capacity-eq0-clause-spends : goal.returns-then-capacity-eq0-clause-spends
returns-then-capacity-eq0-clause-spends g c = grind (arith, nat_tests, list_spends)

pub returns-then-capacity-eq0-clause-asks : goal.returns-then-capacity-eq0-clause-asks
returns-then-capacity-eq0-clause-asks g c =
    let none : c.args.list.raw.cap ≡ 0 = omega (arith, c.capacity.ensures, c.if-capacity-eq0.true) in
    first_asks _ _ (solid c.args.list.raw.block) c.args.list.raw.cap c.args.room (c.args.list.raw.len + length c.args.nodes.now)
    (no_block c.requires.held none) none (omega (arith, c.requires.some, c.requires.room)) c.list_of.result c.list_of.ensures.asks

pub returns-then-capacity-eq0-clause-grown : goal.returns-then-capacity-eq0-clause-grown
returns-then-capacity-eq0-clause-grown g c =
    let none : c.args.list.raw.cap ≡ 0 = omega (arith, c.capacity.ensures, c.if-capacity-eq0.true) in
    first_grown c.args.list.raw.cap c.args.room (c.args.list.raw.len + length c.args.nodes.now) none c.list_of.result c.list_of.ensures.cap

pub returns-clause-asks : goal.returns-clause-asks
returns-clause-asks g c =
    let some : c.args.list.raw.cap ≢ 0 = λ none. c.if-capacity-eq0.false (omega (arith, c.capacity.ensures, none)) in
    subst (λ (growth : Growth). AsksFor (room_ask 88 8 (solid c.args.list.raw.block) growth) (solid c.args.list.raw.block) (λ (v : Vec Node). v.raw.block) c.args.a.now
    c.longer.new.a c.longer.result) (sym (later_growth c.args.list.raw.cap (c.args.list.raw.len + length c.args.nodes.now) c.args.room some)) c.longer.ensures.asks

pub returns-clause-grown : goal.returns-clause-grown
returns-clause-grown g c =
    let some : c.args.list.raw.cap ≢ 0 = λ none. c.if-capacity-eq0.false (omega (arith, c.capacity.ensures, none)) in
    subst (λ (growth : Growth). IfOk c.longer.result (λ v. v.raw.cap ≡ capacity_after growth c.args.list.raw.cap))
    (sym (later_growth c.args.list.raw.cap (c.args.list.raw.len + length c.args.nodes.now) c.args.room some)) c.longer.ensures.grown
