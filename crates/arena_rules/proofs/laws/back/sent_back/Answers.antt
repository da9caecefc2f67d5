use Rattle.arena_rules.proofs.BackLemmas.{back_doubling}
use Rattle.arena_rules.proofs.laws.back.sent_back.Goals as goal

pub returns-clause-doubling : goal.returns-clause-doubling
returns-clause-doubling c = back_doubling
