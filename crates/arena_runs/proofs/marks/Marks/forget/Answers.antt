use Rattle.std.proofs.lemmas.Bool.Decides.{nat_tests}
use Rattle.std.proofs.Common.{arith}
use Rattle.arena_runs.proofs.marks.Marks.forget.Goals as goal

pub returns : goal.returns
returns g c = grind (arith, nat_tests)
