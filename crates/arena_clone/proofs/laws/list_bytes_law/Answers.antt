use Rattle.std.proofs.lemmas.Bool.Decides.{nat_tests}
use Rattle.std.proofs.Common.{arith}
use Rattle.arena_clone.proofs.ListBytesLemmas.{vector_brings, text_brings}
use Rattle.arena_clone.proofs.laws.list_bytes_law.Goals as goal

pub returns : goal.returns
returns g c = grind (arith, nat_tests, vector_brings, text_brings)
