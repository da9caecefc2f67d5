use Rattle.std.proofs.lemmas.Bool.Decides.{nat_tests}
use Rattle.std.proofs.Common.{arith}
use Rattle.arena_table.proofs.gap.pull.Goals as goal

pub returns-clause-copies : goal.returns-clause-copies
returns-clause-copies g c = grind (arith, nat_tests)
