use Rattle.std.proofs.Common.{◌≡◌, ◌++◌, ◌∷◌, [], inr, refl, ◌∙◌, arith, length}
use Rattle.std.proofs.lemmas.List.{length-append}
use Rattle.call_rules.specs.Generator.{gen_calls}
use Rattle.arena_calls.proofs.StreamLemmas.{on_err}
use Rattle.arena_calls.proofs.GeneratingLemmas.{seed_first, seed_more, calls_more, calls_first, call_next}
use Rattle.arena_drawing.proofs.EndLemmas.{first_all}
use Rattle.arena_oracle.proofs.TurnLemmas.{turns_first, turns_more, neither, shown, kept_by_generated}
use Rattle.arena_oracle.proofs.within.run_generated_within.Goals as goal

pub loop-i-init : goal.loop-i-init
loop-i-init c =
    let none = c.reserve.ensures.same [] c.new-tally.ensures in
    record {
      list = [];
      running = c.in_ok-run.ensures _;
      seed = c.new-draws.ensures ∙ seed_first c.args.start;
      tally = none;
      calls = none.calls;
      most = omega (arith, c.in_ok-reserve.ensures.room);
      turns = λ known. turns_first _ _ (gen_calls c.args.start);
    }

pub loop-i-preserved : goal.loop-i-preserved
loop-i-preserved c =
    let now = c.loop-i.invariant in
    let served = c.in_ok-serve.ensures.serves in
    let counted = served.2 now.list now.tally in
    let more = calls_more c.args.start c.loop-i.i c.loop-i.draws.seed c.call-call.result now.seed c.call-call.ensures.call in
    record {
      list = now.list ++ served.0 ∷ [];
      running = rw more (served.1 _ (gen_calls c.args.start c.loop-i.i) now.list now.running);
      seed = seed_more c.args.start c.loop-i.i c.loop-i.draws.seed c.call-call.new.self.seed now.seed c.call-call.ensures.seed;
      tally = counted;
      calls = omega (arith, counted.calls, now.tally.calls, now.calls, length-append now.list (served.0 ∷ []));
      most = now.most;
      turns = λ known. let both = neither _ _ known in let also = neither _ _ both.1 in
          turns_more _ _ c.loop-i.chunks c.serve.new.chunks _ _ (gen_calls c.args.start) c.loop-i.i now.list served.0 _ more refl
          (served.1 _ (gen_calls c.args.start c.loop-i.i) now.list now.running) also.0 (rw c.asked-made.ensures at (c.ends_granted-ends.ensures (shown _ also.1) also.0))
          (now.turns both.0);
    }

pub returns-clause-ok : goal.returns-clause-ok
returns-clause-ok c =
    let now = c.loop-i.invariant in
    let over : c.loop-i.i ≡ c.args.count = omega arith in
    let turns = now.turns c.if-exhausted.false in (
      now.list,
      c.in_ok-held.field-0.items,
      c.in_ok-held.ensures.ok _ _ (gen_calls c.args.start c.args.count) now.list (rw over at now.running),
      kept_by_generated _ _ _ c.args.start c.args.count now.list (rw over at turns),
      now.tally,
    )

pub returns-clause-many : goal.returns-clause-many
returns-clause-many c = λ over. absurd (omega (arith, over, c.loop-i.invariant.most))

-- ---- Where memory runs out

pub returns-in_err-serve-clause-err : goal.returns-in_err-serve-clause-err
returns-in_err-serve-clause-err c =
    let now = c.loop-i.invariant in
    let next = call_next c.args.start c.args.count c.loop-i.i c.loop-i.draws.seed c.call-call.result (omega arith) now.seed
    c.call-call.ensures.call in
    let stopped = c.in_err-serve.ensures.stays _ (gen_calls c.args.start c.args.count) c.loop-i.i now.list
    (rw (calls_first c.args.start c.args.count c.loop-i.i (omega arith)) at now.running) next in
    on_err c.from_residual-in_err-serve.result (inr (c.loop-i.i, stopped.0))

pub returns-in_err-held-clause-err : goal.returns-in_err-held-clause-err
returns-in_err-held-clause-err c =
    let now = c.loop-i.invariant in
    let over : c.loop-i.i ≡ c.args.count = omega arith in
    let stopped = c.in_err-held.ensures.err _ _ (gen_calls c.args.start c.args.count) now.list (rw over at now.running) in
    on_err c.from_residual-in_err-held.result (inr (length (gen_calls c.args.start c.args.count), stopped.0))

pub returns-then-exhausted-clause-err : goal.returns-then-exhausted-clause-err
returns-then-exhausted-clause-err c =
    let now = c.loop-i.invariant in
    let over : c.loop-i.i ≡ c.args.count = omega arith in
    let runs = c.in_ok-held.ensures.ok _ _ (gen_calls c.args.start c.args.count) now.list (rw over at now.running) in
    inr (length (gen_calls c.args.start c.args.count), first_all _ _ _ _ _ runs)
