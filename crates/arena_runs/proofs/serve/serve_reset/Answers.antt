use Rattle.std.proofs.Common.{ap}
use Rattle.arena_store.specs.Memory.{Memory}
use Rattle.arena_runs.proofs.Marking.{serves_reset_run}
use Rattle.arena_runs.proofs.serve.serve_reset.Goals as goal

pub returns-clause-serves : goal.returns-clause-serves
returns-clause-serves g c = λ source.
    rw (c.clear.ensures, c.clear-2.ensures) (serves_reset_run c.args.arena.now c.reset.new.self c.args.run.now.names c.args.run.now.marks
    source
    (ap (λ (w : Memory). w.state) c.reset.ensures.memory) (ap (λ (w : Memory). w.statistics) c.reset.ensures.memory) c.reset.ensures.valid)
