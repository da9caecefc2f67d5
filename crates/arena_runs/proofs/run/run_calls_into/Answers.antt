use Rattle.std.proofs.Common.{◌≡◌, ℕ, [], ◌∷◌, ◌++◌, ◌+◌, ap, sym, refl, ◌∙◌, arith, length, take, take_all, add-one, append-nil, append_assoc, subst}
use Rattle.std.proofs.Math.Seq.{take-suc}
use Rattle.std.proofs.lemmas.Option.{slice_get_read}
use Rattle.call_rules.specs.declared.calls.Call.{Call}
use Rattle.arena_runs.proofs.Running.{running_first, running_stopped}
use Rattle.arena_runs.proofs.run.run_calls_into.Goals as goal

pub loop-done-init : goal.loop-done-init
loop-done-init g c = record {
  list = [];
  running = c.in-Ok.ensures _;
  taken = λ list taken. rw (append-nil list) taken;
  room = omega (arith, c.in-Ok-reserve.ensures.room);
}

pub loop-done-preserved : goal.loop-done-preserved
loop-done-preserved g c =
    let now = c.loop-done.invariant in
    let served = c.in-Ok-serve.ensures.serves in
    let more : take (c.loop-done.done + 1) c.args.calls.now ≡ take c.loop-done.done c.args.calls.now ++ c.index-calls-done.result ∷ [] =
    ap (λ (n : ℕ). take n c.args.calls.now) (add-one c.loop-done.done)
    ∙ take-suc c.args.calls.now c.loop-done.done c.index-calls-done.result (omega arith)
    ∙ ap (λ (call : Call). take c.loop-done.done c.args.calls.now ++ call ∷ []) (sym c.index-calls-done.is) in
    record {
      list = now.list ++ served.0 ∷ [];
      running = rw more (served.1 _ (take c.loop-done.done c.args.calls.now) now.list now.running);
      taken = λ list taken. subst (g.R.Replies.has_taken c.serve.new.replies) (append_assoc list now.list (served.0 ∷ []))
          (served.2 (list ++ now.list) (now.taken list taken));
      room = omega (arith, now.room, c.in-Ok-serve.ensures.room);
    }

pub returns-in-Ok-held-clause-ok : goal.returns-in-Ok-held-clause-ok
returns-in-Ok-held-clause-ok g c =
    let all = take_all c.loop-done.done c.args.calls.now (omega arith) in
    let now = c.loop-done.invariant in (
      now.list,
      c.in-Ok-held.ensures.ok _ _ c.args.calls.now now.list (rw all at now.running),
      λ list taken. now.taken list (c.reserve.ensures.same list taken),
    )

-- ---- Where memory runs out

pub returns-in_default-clause-err : goal.returns-in_default-clause-err
returns-in_default-clause-err g c =
    let first = running_stopped _ _ _ _ c.args.calls.now 0 [] (omega arith) (running_first _ c.known.ensures.valid)
    (λ call some at. absurd (omega arith)) in
    (first.0, rw first.1 (λ list taken. rw (append-nil list) taken))

pub returns-in_default-reserve-clause-err : goal.returns-in_default-reserve-clause-err
returns-in_default-reserve-clause-err g c =
    let first = running_stopped _ _ _ _ c.args.calls.now 0 [] (omega arith) (running_first _ c.known.ensures.valid)
    (λ call some at. absurd (omega arith)) in
    (first.0, rw first.1 (λ list taken. rw (append-nil list) (c.reserve.ensures.same list taken)))

pub returns-in_default-serve-clause-err : goal.returns-in_default-serve-clause-err
returns-in_default-serve-clause-err g c =
    let now = c.loop-done.invariant in
    let at = slice_get_read c.args.calls.now (length c.args.calls.now) c.loop-done.done c.index-calls-done.result refl (omega arith)
    c.index-calls-done.is in
    let first = c.in_default-serve.ensures.stays _ c.args.calls.now c.loop-done.done now.list now.running at in (
      first.0,
      rw first.1 (λ list taken. c.in_default-serve.ensures.same (list ++ now.list) (now.taken list (c.reserve.ensures.same list taken))),
    )

pub returns-clause-err : goal.returns-clause-err
returns-clause-err g c =
    let all = take_all c.loop-done.done c.args.calls.now (omega arith) in
    let now = c.loop-done.invariant in
    let first = c.in-Err.ensures.err _ _ c.args.calls.now now.list (rw all at now.running) in
    (first.0, rw first.1 (λ list taken. now.taken list (c.reserve.ensures.same list taken)))
