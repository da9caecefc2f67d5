use Rattle.script_rules.proofs.RunLemmas.{run_keeps}
use Rattle.script_rules.proofs.laws.machine.runs.Goals as goal

pub returns-clause-keeps : goal.returns-clause-keeps
returns-clause-keeps c = run_keeps
