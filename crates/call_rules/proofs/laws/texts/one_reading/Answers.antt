use Rattle.call_rules.proofs.ReadingLemmas.{same_reading}
use Rattle.call_rules.proofs.laws.texts.one_reading.Goals as goal

pub returns : goal.returns
returns c = same_reading
