use Rattle.arena_runs.proofs.Running.{running_first}
use Rattle.arena_runs.proofs.run.Run.new.Goals as goal

pub returns : goal.returns
returns g c = λ source. rw (c.new.ensures, c.new-2.ensures) (running_first _ c.known.ensures.valid)
