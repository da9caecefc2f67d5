use Rattle.std.proofs.lemmas.Bool.Decides.{nat_tests}
use Rattle.std.proofs.Common.{arith}
use Rattle.arena_clone.proofs.AlikeLemmas.{options_alike, lists_alike}
use Rattle.arena_clone.proofs.laws.alike_law.Goals as goal

pub returns : goal.returns
returns g c = grind (arith, nat_tests, options_alike, lists_alike)
