use Rattle.call_rules.proofs.SummaryLemmas.{same_summary}
use Rattle.call_rules.proofs.laws.generator.one_summary.Goals as goal

pub returns : goal.returns
returns c = same_summary
