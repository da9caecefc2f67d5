use Rattle.std.proofs.Common.{◌≡◌, ℕ, ◌+◌, ◌-◌, ◌*◌, ◌^◌, get_or, Ok, Err, refl, ap, ◌∙◌, arith}
use Rattle.std.proofs.lemmas.Result.{err_from_is_err_and}
use Rattle.arena_chunks.proofs.Layers.{frame_then, frame_reflexive}
use Rattle.arena_hash.specs.Finite.{Finite, with_pair}
use Rattle.arena_items.specs.Costs.{farthest}
use Rattle.arena_items.specs.contracts.numbers.unsigned.U64Item.TheImpl as item
use Rattle.example_collections.proofs.FillingLemmas.{put_more, ok_costs, err_costs}
use Rattle.example_collections.proofs.filling.put_all.Goals as goal

pub pairs-init : goal.pairs-init
pairs-init g c = record {
  held = c.requires;
  map_is = refl;
  frame = frame_reflexive _ _;
  costs = λ one. c.costs_law.ensures.nothing (farthest - 2 ^ 61) 0 _ _ c.args.a.now c.args.a.now tt
      (record { state = refl; statistics = refl; source = refl }) (omega arith);
}

pub pairs-preserved : goal.pairs-preserved
pairs-preserved g c =
    let before = c.pairs.invariant in
    let puts = c.in_ok-insert.ensures in
    let pairs = c.args.pairs.now in
    let i = c.pairs.i in
    let p = get_or pairs i (0, 0) in
    record {
      held = puts.held;
      map_is = puts.map_is ∙ ap (λ (is : Finite ℕ ℕ). with_pair is (item.ghosts.encoded p.0) p.0 p.1) before.map_is
          ∙ put_more item.ghosts.encoded _ pairs i (0, 0) c.pairs-test.true;
      frame = frame_then _ _ _ _ _ _ before.frame puts.frame;
      costs = λ one.
          let second = c.insert_law.ensures.map c.pairs.a c.insert.new.a c.pairs.map c.insert.new.self p.0 p.1 _
          (before.frame.min_align ∙ one) (omega arith) (omega arith) before.held puts in
          let more : 320 * (i + 1) ≡ 320 * i + 320 = omega arith in
          rw more (ok_costs _ _ _ _ _ _ c.in_ok-insert.field-0 tt (c.costs_law.ensures.then (farthest - 2 ^ 61) (320 * i) 320 _ _ _
          c.args.a.now c.pairs.a c.insert.new.a (Ok tt) (Ok c.in_ok-insert.field-0) before.frame.is_growing before.frame.allocated refl
          (before.costs one) second));
    }

pub returns-in_err-insert-clause-costs : goal.returns-in_err-insert-clause-costs
returns-in_err-insert-clause-costs g c = λ one.
    let before = c.pairs.invariant in
    let i = c.pairs.i in
    let is = err_from_is_err_and c.from_residual.result c.from_residual.ensures.1 in
    let e = c.in_err-insert.field-0.0 in
    let p = get_or c.args.pairs.now i (0, 0) in
    let second = c.insert_law.ensures.map c.pairs.a c.insert.new.a c.pairs.map c.insert.new.self p.0 p.1 (Err e)
    (before.frame.min_align ∙ one) (omega arith) (omega arith) before.held c.in_err-insert.ensures in
    let both = c.costs_law.ensures.then (farthest - 2 ^ 61) (320 * i) 320 _ _ _ c.args.a.now c.pairs.a c.insert.new.a (Ok tt) (Err e)
    before.frame.is_growing before.frame.allocated refl (before.costs one) second in
    rw (is.1, is.2) (c.costs_law.ensures.weaken (farthest - 2 ^ 61) (farthest - 2 ^ 61) (320 * i + 320) _ _ _ c.args.a.now c.insert.new.a
    (Err e)
    (omega arith) (omega (arith, c.pairs-test.true)) (err_costs _ _ _ _ _ _ e both))
