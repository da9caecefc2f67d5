use Rattle.std.proofs.lemmas.Bool.Decides.{nat_tests}
use Rattle.std.proofs.Common.{arith, length-take}
use Rattle.arena_region.proofs.LaidLemmas.{written_shown, part_shown}
use Rattle.arena_region.proofs.region.Region.part_mut.Goals as goal

pub returns : goal.returns
returns c = grind (arith, nat_tests, length-take, written_shown, part_shown)
