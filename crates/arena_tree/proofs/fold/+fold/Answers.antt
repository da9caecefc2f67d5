use Rattle.std.proofs.lemmas.Bool.Decides.{nat_tests}
use Rattle.std.proofs.Common.{rules, ◌≡◌, ◌-◌, ◌∙◌, refl, sym, Some, None, arith}
use Rattle.arena_kinds.proofs.Layers.{same_places}
use Rattle.arena_items.proofs.Layers.{same_then}
use Rattle.arena_tree.specs.FoldingParts.{CanFold, kids_folded}
use Rattle.tree_nodes.proofs.SubtreeLemmas.{kids_at}
use Rattle.arena_tree.proofs.FoldNodeLemmas.{leaf_folded, kids_can, kids_done, kids_done_lean, rule_done}
use Rattle.arena_tree.proofs.FoldRowLemmas.{row_begins, turn_of, turn_whole, turn_can, row_next, held_still, set_list}
use Rattle.arena_tree.proofs.fold.+fold.Goals as goal

-- ---- A node

pub fold_node-returns-then-not-has_kids-clause-folded : goal.fold_node-returns-then-not-has_kids-clause-folded
fold_node-returns-then-not-has_kids-clause-folded g t c = λ tree whole.
    leaf_folded tree _ _ whole.stands (sym c.has_kids.ensures ∙ c.if-not-has_kids.true)

pub fold_node-kids-list-requires : goal.fold_node-kids-list-requires
fold_node-kids-list-requires g t c = grind (arith, nat_tests, kids_at)

pub fold_node-fold_row-count-requires : goal.fold_node-fold_row-count-requires
fold_node-fold_row-count-requires g t c h within = grind (arith, nat_tests, kids_can, rules)

pub fold_node-rule-requires : goal.fold_node-rule-requires
fold_node-rule-requires g t c =
    let kids = kids_done c.requires.whole (sym c.has_kids.ensures ∙ c.if-not-has_kids.false) c.kids-list.ensures
    c.fold_row-count.ensures.folded in
    record { tree = kids_folded c.requires.tree; stands = kids.becomes.on.stands }

pub fold_node-overflow_add-result : goal.fold_node-overflow_add-result
fold_node-overflow_add-result g t c =
    let kids = kids_done c.requires.whole (sym c.has_kids.ensures ∙ c.if-not-has_kids.false) c.kids-list.ensures
    c.fold_row-count.ensures.folded in
    omega (arith, kids.few, c.requires.low, c.ranges.room.fits)

pub fold_node-returns-in-Some-clause-folded : goal.fold_node-returns-in-Some-clause-folded
fold_node-returns-in-Some-clause-folded g t c = λ tree whole.
    let kids = kids_done whole (sym c.has_kids.ensures ∙ c.if-not-has_kids.false) c.kids-list.ensures c.fold_row-count.ensures.folded in
    rw c.replace.ensures (rule_done (Some c.in-Some.by) kids c.in-Some.ensures.rule refl)

pub fold_node-returns-in-None-clause-folded : goal.fold_node-returns-in-None-clause-folded
fold_node-returns-in-None-clause-folded g t c = λ tree whole.
    let kids = kids_done whole (sym c.has_kids.ensures ∙ c.if-not-has_kids.false) c.kids-list.ensures c.fold_row-count.ensures.folded in
    rule_done None kids c.in-None.ensures.rule (omega arith)

pub fold_node-returns-then-not-has_kids-clause-lean : goal.fold_node-returns-then-not-has_kids-clause-lean
fold_node-returns-then-not-has_kids-clause-lean g t c = λ lean. lean

pub fold_node-returns-in-Some-clause-lean : goal.fold_node-returns-in-Some-clause-lean
fold_node-returns-in-Some-clause-lean g t c = λ lean.
    rw c.replace.ensures (c.in-Some.ensures.lean (kids_done_lean c.kids-list.ensures c.fold_row-count.ensures.lean lean))

pub fold_node-returns-in-None-clause-lean : goal.fold_node-returns-in-None-clause-lean
fold_node-returns-in-None-clause-lean g t c = λ lean. kids_done_lean c.kids-list.ensures c.fold_row-count.ensures.lean lean

-- ---- A list of nodes

pub fold_row-loop-i-init : goal.fold_row-loop-i-init
fold_row-loop-i-init g t c = record {
  within = omega (arith, c.len-i.ensures);
  row = λ trees whole. row_begins c.len-i.result whole (omega (arith, c.len-i.ensures));
  places = same_places c.args.a.now;
}

pub fold_row-fold_node-count-requires : goal.fold_row-fold_node-count-requires
fold_row-fold_node-count-requires g t c κs within =
    let turn = turn_of (c.loop-i.i - 1) (omega (arith, c.loop-i-test.true)) (c.loop-i.invariant.row c.requires.trees c.requires.whole)
    c.get-kid.ensures in
    let can : CanFold c.loop-i.a.memory c.get-kid.result (c.args.room - 1) = turn_can turn c.requires.low in
    search (rules, can)

pub fold_row-overflow_add-count : goal.fold_row-overflow_add-count
fold_row-overflow_add-count g t c =
    let turn = turn_of (c.loop-i.i - 1) (omega (arith, c.loop-i-test.true)) (c.loop-i.invariant.row c.requires.trees c.requires.whole)
    c.get-kid.ensures in
    let one = c.fold_node-count.ensures.folded turn.place.tree (turn_whole turn) in
    omega (arith, turn.left.row.few, one.few, turn.place.low, c.requires.low, c.ranges.room.fits)

pub fold_row-loop-i-preserved : goal.fold_row-loop-i-preserved
fold_row-loop-i-preserved g t c =
    let i = c.loop-i.invariant in
    let set = c.set.ensures in
    record {
      within = omega (arith, i.within);
      row = λ trees whole.
          let turn = turn_of (c.loop-i.i - 1) (omega (arith, c.loop-i-test.true)) (i.row trees whole) c.get-kid.ensures in
          row_next turn (held_still c.args.a.now.memory c.loop-i.a.memory c.args.list i.places.state c.requires.held)
          (c.fold_node-count.ensures.folded turn.place.tree (turn_whole turn)) c.fold_node-count.ensures.lean
          (record { frame = set.writes.frame; state = set.writes.state }) (set_list _ _ set.becomes);
      places = same_then c.args.a.now c.loop-i.a c.set.new.a i.places
          (same_then c.loop-i.a c.fold_node-count.new.a c.set.new.a c.fold_node-count.ensures.places set.becomes.places);
    }

pub fold_row-returns-clause-folded : goal.fold_row-returns-clause-folded
fold_row-returns-clause-folded g t c =
    let end : c.loop-i.i ≡ 0 = omega (arith, c.loop-i-test.false) in
    record { each = λ trees whole. (rw end at (c.loop-i.invariant.row trees whole)).row }

pub fold_row-returns-clause-lean : goal.fold_row-returns-clause-lean
fold_row-returns-clause-lean g t c = grind (arith, nat_tests)
