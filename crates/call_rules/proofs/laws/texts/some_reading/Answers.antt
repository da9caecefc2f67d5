use Rattle.call_rules.proofs.DecisionLemmas.{some_reading}
use Rattle.call_rules.proofs.laws.texts.some_reading.Goals as goal

pub returns : goal.returns
returns c = some_reading
