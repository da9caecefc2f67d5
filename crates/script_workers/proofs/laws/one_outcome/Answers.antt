use Rattle.script_workers.proofs.OutcomeLemmas.{one_outcome}
use Rattle.script_workers.proofs.laws.one_outcome.Goals as goal

pub returns : goal.returns
returns g c = one_outcome g.C.ChunkSource.source g.D.ChunkSource.source g.J.Job.worked g.H.Job.worked
