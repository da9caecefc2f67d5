use Rattle.std.proofs.lemmas.Bool.Decides.{nat_tests}
use Rattle.std.proofs.Common.{arith}
use Rattle.arena_core.proofs.WalkLemmas.{all_ordered}
use Rattle.arena_core.proofs.iter.ChunksLeft.of.Goals as goal

pub invariant_of-result-2 : goal.invariant_of-result-2
invariant_of-result-2 c = grind (arith, nat_tests, all_ordered)
