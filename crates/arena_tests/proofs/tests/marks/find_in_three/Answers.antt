use Rattle.arena_tests.proofs.StepLemmas.{two_steps}
use Rattle.arena_tests.proofs.tests.marks.find_in_three.Goals as goal

pub returns : goal.returns
returns g c = two_steps _ _ _ c.find_chunk.ensures.cost c.requires
