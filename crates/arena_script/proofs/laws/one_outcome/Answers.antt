use Rattle.arena_script.proofs.OneWay.{one_way}
use Rattle.arena_script.proofs.laws.one_outcome.Goals as goal

pub returns : goal.returns
returns c = one_way
