use Rattle.std.proofs.Common.{[]}
use Rattle.arena_runs.proofs.run.run_calls.Goals as goal

pub returns-clause-ok : goal.returns-clause-ok
returns-clause-ok g c =
    let ran = c.in_ok-held.ensures.ok in
    rw (ran.2 [] c.new.ensures.items) ran.1
