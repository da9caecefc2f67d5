use Rattle.arena_core.proofs.AnswerLemmas.{on_err}
use Rattle.arena_runs.proofs.Running.{running_more, stays_at}
use Rattle.arena_runs.proofs.run.Run.serve.Goals as goal

pub returns-clause-serves : goal.returns-clause-serves
returns-clause-serves g c =
    let served = c.in_ok-serve_into.ensures.serves in (
      served.0,
      λ entry calls replies running. running_more entry _ _ _ _ _ _ calls c.args.call.now replies served.0 running served.1,
      served.2,
    )

pub returns-in_err-serve_into-clause-stays : goal.returns-in_err-serve_into-clause-stays
returns-in_err-serve_into-clause-stays g c =
    on_err c.from_residual.result (stays_at _ _ _ _ _ c.in_err-serve_into.ensures.wants)
