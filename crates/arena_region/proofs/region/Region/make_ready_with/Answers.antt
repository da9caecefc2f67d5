use Rattle.std.proofs.lemmas.Bool.Decides.{nat_tests}
use Rattle.std.proofs.Common.{arith}
use Rattle.arena_region.proofs.LaidLemmas.{written_part}
use Rattle.arena_region.proofs.region.Region.make_ready_with.Goals as goal

pub loop-end-preserved : goal.loop-end-preserved
loop-end-preserved c = grind (arith, nat_tests, written_part)
