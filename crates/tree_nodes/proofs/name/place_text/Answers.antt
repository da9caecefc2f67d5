use Rattle.std.proofs.Common.{◌≡◌, ℕ, ◌+◌, ◌^◌, ◌≤◌, length, true, None, refl, subst, arith}
use Rattle.arena_items.specs.Asks.{Ask, Fresh, solid, TakesBlock}
use Rattle.arena_store.specs.declared.block.Block.{Block}
use Rattle.std.proofs.lemmas.Bool.Decides.{nat_tests}
use Rattle.arena_rules.specs.Rounding.{up, is_layout, is_power, is_power_among}
use Rattle.arena_chunks.proofs.Layers.{wrote_whole}
use Rattle.arena_items.proofs.Layers.{wrote_same}
use Rattle.tree_nodes.proofs.SpendingLemmas.{spends_more, asks_any, asks_of, err_spends}
use Rattle.tree_nodes.proofs.BlockCostLemmas.{spends_same}
use Rattle.tree_nodes.proofs.AskLemmas.{taken_before}
use Rattle.tree_nodes.proofs.name.place_text.Goals as goal

power : is_power 1 ≡ true
unfolding is_power_among
power = refl

short_layout : (n : ℕ) → n + 64 ≤ 2 ^ 63 → is_layout n 1 ≡ true
unfolding is_power_among up
short_layout n few = grind (arith, nat_tests)

pub unreachable-requires : goal.unreachable-requires
unreachable-requires g c =
    let layout = short_layout (length c.args.bytes.now) c.requires in
    let none = c.in_default.ensures.valid in
    cc (layout, none)

pub place_block-requires : goal.place_block-requires
place_block-requires g c = grind (arith, nat_tests)

pub returns-clause-text : goal.returns-clause-text
returns-clause-text g c = grind (arith, nat_tests, wrote_whole)

pub returns-clause-spends : goal.returns-clause-spends
returns-clause-spends g c = grind (arith, nat_tests, spends_same, wrote_same, asks_any, spends_more)

pub returns-in_err-block-clause-spends : goal.returns-in_err-block-clause-spends
returns-in_err-block-clause-spends g c = grind (arith, nat_tests, err_spends, asks_of, spends_more)

pub returns-clause-asks : goal.returns-clause-asks
returns-clause-asks g c =
    let is = c.in-Some.ensures.value in
    let same : ◌≡◌ {A = Ask Block} (Fresh c.in-Some.layout.size c.in-Some.layout.align) (Fresh (length c.args.bytes.now) 1) = cc (is.0, is.1) in
    let written = wrote_same _ _ c.in_ok-block.block 0 c.args.bytes.now c.write.ensures.writes c.write.ensures.source in
    taken_before (Fresh (length c.args.bytes.now) 1) None (solid c.in_ok-block.block) c.args.a.now _ _
    (subst (λ (ask : Ask Block). TakesBlock ask None c.args.a.now c.place_block.new.a (solid c.in_ok-block.block)) same c.in_ok-block.ensures.asks) written
