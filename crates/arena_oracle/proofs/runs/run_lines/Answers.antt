use Rattle.std.proofs.Common.{arith}
use Rattle.arena_oracle.proofs.EndLemmas.{stopped, ran_lines}
use Rattle.arena_oracle.proofs.runs.run_lines.Goals as goal

pub returns-in-Ok-run_calls_within-clause-ok : goal.returns-in-Ok-run_calls_within-clause-ok
returns-in-Ok-run_calls_within-clause-ok c =
    let ran = c.in-Ok-run_calls_within.ensures.ok in
    ran_lines c.args.lines.now _ _ _ _ ran.0 _ _ c.as_slice.ensures.value (omega (arith, c.if-lines-gt-LIMIT.false)) c.in-Ok.ensures.calls
    ran.1 ran.2 ran.3

pub returns-clause-err : goal.returns-clause-err
returns-clause-err c =
    stopped c.args.lines.now _ _ _ _ c.as_slice.ensures.value (omega (arith, c.if-lines-gt-LIMIT.false))
    c.in-Ok.ensures.calls c.in-Err.ensures.err
