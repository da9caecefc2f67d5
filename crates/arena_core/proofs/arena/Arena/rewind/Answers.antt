use Rattle.std.proofs.lemmas.Bool.Decides.{nat_tests}
use Rattle.std.proofs.Common.{arith}
use Rattle.arena_core.proofs.RewindLemmas.{accepted, goes_back}
use Rattle.arena_core.proofs.arena.Arena.rewind.Goals as goal

pub returns-clause-back : goal.returns-clause-back
returns-clause-back g c = grind (arith, nat_tests, goes_back, accepted)
