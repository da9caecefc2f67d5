use Rattle.call_rules.proofs.TextLemmas.{same_replies}
use Rattle.call_rules.proofs.laws.texts.one_text.Goals as goal

pub returns : goal.returns
returns c = same_replies
