use Rattle.std.proofs.lemmas.Bool.Decides.{nat_tests}
use Rattle.std.proofs.Common.{arith}
use Rattle.std.proofs.lemmas.Result.{err_from_is_err_and}
use Rattle.arena_hash.proofs.WholeLemmas.{places-as, refused-as}
use Rattle.arena_hash.proofs.set.HashSet.with_capacity_and_hasher_in.Goals as goal

pub returns-in_err-map-clause-placed : goal.returns-in_err-map-clause-placed
returns-in_err-map-clause-placed g c = grind (arith, nat_tests, err_from_is_err_and, refused-as)

pub returns-clause-placed : goal.returns-clause-placed
returns-clause-placed g c = grind (arith, nat_tests, places-as)
