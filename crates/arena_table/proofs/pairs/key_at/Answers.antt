use Rattle.std.proofs.lemmas.Bool.Decides.{nat_tests}
use Rattle.std.proofs.Common.{arith}
use Rattle.arena_table.proofs.SlotLemmas.{key-is}
use Rattle.arena_table.proofs.pairs.key_at.Goals as goal

pub returns : goal.returns
returns g c = grind (arith, nat_tests, key-is)
