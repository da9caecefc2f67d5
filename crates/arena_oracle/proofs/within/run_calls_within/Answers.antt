use Rattle.std.proofs.Common.{◌≡◌, ℕ, ◌+◌, [], ◌∷◌, ◌++◌, ap, sym, refl, ◌∙◌, arith, inr, length, take, take_all, add-one, append-nil, append_assoc, subst}
use Rattle.std.proofs.Math.Seq.{take-suc}
use Rattle.std.proofs.lemmas.Option.{slice_get_read}
use Rattle.call_rules.specs.declared.calls.Call.{Call}
use Rattle.arena_calls.proofs.StreamLemmas.{on_err}
use Rattle.arena_drawing.proofs.EndLemmas.{first_all}
use Rattle.arena_oracle.proofs.TurnLemmas.{turns_first, turns_more, neither, shown, kept_by_turns}
use Rattle.arena_oracle.proofs.within.run_calls_within.Goals as goal

pub loop-done-init : goal.loop-done-init
loop-done-init g c = record {
  list = [];
  running = c.in_ok-run.ensures _;
  taken = λ list taken. rw (append-nil list) taken;
  room = omega (arith, c.in_ok-reserve.ensures.room);
  turns = λ known. turns_first _ _ (λ (n : ℕ). take n c.args.calls.now);
}

pub loop-done-preserved : goal.loop-done-preserved
loop-done-preserved g c =
    let now = c.loop-done.invariant in
    let served = c.in_ok-serve.ensures.serves in
    let more : take (c.loop-done.done + 1) c.args.calls.now ≡ take c.loop-done.done c.args.calls.now ++ c.index-calls-done.result ∷ [] =
    ap (λ (n : ℕ). take n c.args.calls.now) (add-one c.loop-done.done)
    ∙ take-suc c.args.calls.now c.loop-done.done c.index-calls-done.result (omega arith)
    ∙ ap (λ (call : Call). take c.loop-done.done c.args.calls.now ++ call ∷ []) (sym c.index-calls-done.is) in
    record {
      list = now.list ++ served.0 ∷ [];
      running = rw more (served.1 _ (take c.loop-done.done c.args.calls.now) now.list now.running);
      taken = λ list taken. subst (g.R.Replies.has_taken c.serve.new.replies) (append_assoc list now.list (served.0 ∷ []))
          (served.2 (list ++ now.list) (now.taken list taken));
      room = omega (arith, now.room, c.in_ok-serve.ensures.room);
      turns = λ known. let both = neither _ _ known in let also = neither _ _ both.1 in
          turns_more _ _ c.loop-done.chunks c.serve.new.chunks _ _ (λ (n : ℕ). take n c.args.calls.now) c.loop-done.done now.list served.0 _ more refl
          (served.1 _ (take c.loop-done.done c.args.calls.now) now.list now.running) also.0 (rw c.asked-made.ensures at (c.ends_granted-ends.ensures (shown _ also.1) also.0))
          (now.turns both.0);
    }

pub returns-clause-ok : goal.returns-clause-ok
returns-clause-ok g c =
    let all = take_all c.loop-done.done c.args.calls.now (omega arith) in
    let now = c.loop-done.invariant in (
      now.list,
      c.in_ok-held.ensures.ok _ _ c.args.calls.now now.list (rw all at now.running),
      kept_by_turns _ _ _ c.args.calls.now c.loop-done.done now.list (omega arith) (now.turns c.if-exhausted.false),
      λ list taken. now.taken list (c.reserve.ensures.same list taken),
    )

-- ---- Where memory runs out

pub returns-in_err-serve-clause-err : goal.returns-in_err-serve-clause-err
returns-in_err-serve-clause-err g c =
    let now = c.loop-done.invariant in
    let at = slice_get_read c.args.calls.now (length c.args.calls.now) c.loop-done.done c.index-calls-done.result refl (omega arith)
    c.index-calls-done.is in
    let stopped = c.in_err-serve.ensures.stays _ c.args.calls.now c.loop-done.done now.list now.running at in
    on_err c.from_residual-in_err-serve.result (inr (c.loop-done.done, stopped.0))

pub returns-in_err-held-clause-err : goal.returns-in_err-held-clause-err
returns-in_err-held-clause-err g c =
    let all = take_all c.loop-done.done c.args.calls.now (omega arith) in
    let now = c.loop-done.invariant in
    let stopped = c.in_err-held.ensures.err _ _ c.args.calls.now now.list (rw all at now.running) in
    on_err c.from_residual-in_err-held.result (inr (length c.args.calls.now, stopped.0))

pub returns-then-exhausted-clause-err : goal.returns-then-exhausted-clause-err
returns-then-exhausted-clause-err g c =
    let all = take_all c.loop-done.done c.args.calls.now (omega arith) in
    let now = c.loop-done.invariant in
    let runs = c.in_ok-held.ensures.ok _ _ c.args.calls.now now.list (rw all at now.running) in
    inr (length c.args.calls.now, first_all _ _ _ _ _ runs)
