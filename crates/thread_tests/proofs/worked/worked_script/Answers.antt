use Rattle.std.proofs.Common.{refl}
use Rattle.script_rules.specs.Machine.{run_from}
use Rattle.script_rules.specs.Effects.{effect}
use Rattle.thread_tests.proofs.worked.worked_script.Goals as goal

pub returns-clause-need : goal.returns-clause-need
unfolding run_from effect
returns-clause-need c = refl

pub returns-clause-cost : goal.returns-clause-cost
unfolding run_from effect
returns-clause-cost c = refl
