use Rattle.std.proofs.lemmas.Bool.Decides.{nat_tests}
use Rattle.std.proofs.Common.{arith}
use Rattle.arena_region.proofs.LaidLemmas.{cleared}
use Rattle.arena_region.proofs.region.Region.make_ready.Goals as goal

pub returns-then-from-self : goal.returns-then-from-self
returns-then-from-self c = grind (arith, nat_tests, cleared)
