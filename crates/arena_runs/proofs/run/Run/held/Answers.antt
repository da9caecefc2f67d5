use Rattle.arena_core.proofs.AnswerLemmas.{on_err}
use Rattle.arena_runs.proofs.Running.{running_over, stays_behind}
use Rattle.arena_runs.proofs.run.Run.held.Goals as goal

pub returns-clause-ok : goal.returns-clause-ok
returns-clause-ok g c = λ source entry calls replies running.
    running_over entry _ _ _ calls replies running c.in_ok-held.held.items (rw c.generation.ensures at c.in_ok-held.ensures)

pub returns-in_err-held-clause-err : goal.returns-in_err-held-clause-err
returns-in_err-held-clause-err g c = λ source. on_err c.from_residual.result (stays_behind _ _ _)
