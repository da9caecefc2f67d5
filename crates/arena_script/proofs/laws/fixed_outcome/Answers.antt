use Rattle.arena_script.proofs.FixedLemmas.{fixed_way}
use Rattle.arena_script.proofs.laws.fixed_outcome.Goals as goal

pub returns : goal.returns
returns c = fixed_way
