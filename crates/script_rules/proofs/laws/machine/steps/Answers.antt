use Rattle.script_rules.proofs.RunLemmas.{stepped}
use Rattle.script_rules.proofs.laws.machine.steps.Goals as goal

pub returns : goal.returns
returns _ = record {
  keeps = λ c objects are. (stepped c objects are).keeps;
  need = λ c objects are. (stepped c objects are).needs;
  refused_objects = λ c objects are is. ((stepped c objects are).refused is).0;
  refused_cost = λ c objects are is. ((stepped c objects are).refused is).1;
}
