use Rattle.std.proofs.Common.{[], Some}
use Rattle.arena_calls.specs.declared.status.Status.TheVariants.{Done}
use Rattle.arena_oracle.specs.Answers.{CallsWithin}
use Rattle.arena_oracle.proofs.EndLemmas.{over_new, done, no_text}
use Rattle.arena_oracle.proofs.runs.run_text.Goals as goal

pub returns-in-Ok-clause-ok : goal.returns-in-Ok-clause-ok
returns-in-Ok-clause-ok c =
    let ran = c.in-Ok.ensures.ok in
    over_new CallsWithin c.args.lines.now _ _ _ c.run_lines.new.arena Done (Some []) _ c.new-arena.ensures
    (done c.args.lines.now _ _ ran.0 _ _ ran.1 ran.2 (ran.3 [] c.new-text.ensures))

pub returns-clause-err : goal.returns-clause-err
returns-clause-err c =
    no_text c.args.lines.now _ _ _ c.run_lines.new.arena c.new-arena.ensures c.in-Err.status c.in-Err.ensures.undone c.in-Err.ensures.err
