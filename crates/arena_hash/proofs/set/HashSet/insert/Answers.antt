use Rattle.std.proofs.lemmas.Bool.Decides.{nat_tests}
use Rattle.std.proofs.Common.{arith}
use Rattle.std.proofs.Math.Bool.{not-not}
use Rattle.std.proofs.lemmas.Result.{err_from_is_err_and}
use Rattle.arena_hash.proofs.SetLemmas.{puts-as, puts-refused-as}
use Rattle.arena_hash.proofs.set.HashSet.insert.Goals as goal

pub returns-in_err-old : goal.returns-in_err-old
returns-in_err-old g c = grind (arith, nat_tests, err_from_is_err_and, puts-refused-as)

pub returns : goal.returns
returns g c = grind (arith, nat_tests, puts-as, not-not)
