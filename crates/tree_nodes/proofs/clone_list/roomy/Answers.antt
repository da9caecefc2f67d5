use Rattle.std.proofs.lemmas.Bool.Decides.{nat_tests}
use Rattle.std.proofs.Common.{sym, ◌∙◌, arith}
use Rattle.arena_items.proofs.Layers.{row_is_layout, elements-empty}
use Rattle.tree_nodes.specs.NodeForms.{plain_88_8}
use Rattle.tree_nodes.proofs.SpendingLemmas.{spends_more, asks_any, asks_of, err_spends}
use Rattle.tree_nodes.proofs.SubtreeLemmas.{true_false}
use Rattle.tree_nodes.proofs.CloneListLemmas.{room_built}
use Rattle.tree_nodes.proofs.clone_list.roomy.Goals as goal

pub unreachable-requires : goal.unreachable-requires
unreachable-requires g c =
    true_false (sym (c.in_default.ensures.valid ∙ row_is_layout c.args.len 88 8 plain_88_8 (omega arith) (omega arith)))

pub place_block-requires : goal.place_block-requires
place_block-requires g c = grind (arith, nat_tests)

pub returns-clause-row : goal.returns-clause-row
returns-clause-row g c = grind (arith, nat_tests, room_built, elements-empty)

pub returns-clause-spends : goal.returns-clause-spends
returns-clause-spends g c =
    let is = c.in-Some.ensures.value in
    asks_any (spends_more c.in_ok-block.ensures.spends (omega (arith, is.0, is.1)) (omega (arith, is.0, is.1)))

pub returns-in_err-block-clause-spends : goal.returns-in_err-block-clause-spends
returns-in_err-block-clause-spends g c =
    let is = c.in-Some.ensures.value in
    err_spends _ _ c.from_residual.ensures (asks_of (λ size align h. (h.0 ∙ is.0, h.1 ∙ is.1))
    (spends_more c.in_err-block.ensures.spends (omega (arith, is.0, is.1)) (omega (arith, is.0, is.1))))
