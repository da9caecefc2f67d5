use Rattle.arena_oracle.proofs.OneRunLemmas.{same_run}
use Rattle.arena_oracle.proofs.laws.one_run.Goals as goal

pub returns : goal.returns
returns c = λ budget refuse entry calls one other last end ran keeps also keeps_too.
    (same_run budget refuse entry calls one other last end ran also keeps keeps_too).0
