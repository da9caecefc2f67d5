use Rattle.std.proofs.Common.{◌≡◌, ◌∙◌, ◌+◌, arith, refl, sym, subst, ap, [], ◌∷◌, ◌++◌, length, length-append}
use Rattle.arena_script.specs.Running.{IsRun}
use Rattle.arena_script.proofs.RunningLemmas.{after_none, after_more, reply_more, none_replied}
use Rattle.arena_script.proofs.EndingLemmas.{came, is_at, run_done, run_exhausted, run_refused}
use Rattle.arena_script.proofs.run.serve_all.Goals as goal

pub loop-command-init : goal.loop-command-init
loop-command-init g c = record {
  after = rw c.new-things.ensures (after_none c.args.commands.now c.args.a.now c.requires.start.unused);
  replies = c.requires.replies ∙ none_replied;
  count = ap length c.requires.replies;
  room = c.requires.room;
}

pub returns-in-Err-AllocErr : goal.returns-in-Err-AllocErr
returns-in-Err-AllocErr g c = λ bytes is.
    let l = c.loop-command in
    let at = is_at c.args.commands.now l.command-index c.command-item.result c.loop-command-test.true c.command-item.is in
    subst (λ ended. IsRun c.args.commands.now c.args.a.now c.serve.new.a (came l.replies.items ended bytes)) (sym c.refused.ensures)
    (run_refused _ _ (omega (arith, c.loop-command-test.true)) l.invariant.replies c.bytes_law.ensures.pairs at c.requires.start l.invariant.after
    c.in-Err-AllocErr.ensures is c.in-Err-AllocErr.field-0-is c.serve.new.a.memory.state.is_growing refl)

pub returns-in-Err : goal.returns-in-Err
returns-in-Err g c = λ bytes is.
    let l = c.loop-command in
    let at = is_at c.args.commands.now l.command-index c.command-item.result c.loop-command-test.true c.command-item.is in
    run_exhausted _ _ (omega (arith, c.loop-command-test.true)) l.invariant.replies c.bytes_law.ensures.pairs at c.requires.start l.invariant.after c.in-Err.ensures is

pub loop-command-preserved : goal.loop-command-preserved
loop-command-preserved g c =
    let l = c.loop-command in
    let at = is_at c.args.commands.now l.command-index c.command-item.result c.loop-command-test.true c.command-item.is in
    let pushed : c.push.new.self.items ≡ l.replies.items ++ c.in-Ok.reply ∷ [] = c.in-Ok-push.ensures.items in record {
      after = after_more _ at.more l.invariant.after c.in-Ok.ensures;
      replies = pushed ∙ reply_more _ at.more l.invariant.after l.invariant.replies c.in-Ok.ensures;
      count = ap length pushed ∙ length-append l.replies.items (c.in-Ok.reply ∷ []) ∙ ap (λ n. n + 1) l.invariant.count;
      room = omega (arith, l.invariant.room, c.push.ensures.capacity);
    }

pub returns : goal.returns
returns g c = λ bytes is.
    let l = c.loop-command in
    run_done _ _ (omega (arith, l.auto.command-index-end)) l.invariant.replies c.bytes_law.ensures.pairs c.requires.start l.invariant.after
    (omega (arith, l.auto.command-index-end, c.loop-command-test.false)) is
