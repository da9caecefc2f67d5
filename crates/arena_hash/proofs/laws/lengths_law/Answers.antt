use Rattle.std.proofs.lemmas.Bool.Decides.{nat_tests}
use Rattle.std.proofs.Common.{arith}
use Rattle.hash_ring.proofs.Equal.{same-length}
use Rattle.arena_hash.proofs.laws.lengths_law.Goals as goal

pub returns : goal.returns
returns g c = grind (arith, nat_tests, same-length)
