use Rattle.std.proofs.lemmas.Bool.Decides.{nat_tests}
use Rattle.std.proofs.Common.{arith}
use Rattle.arena_table.proofs.SlotLemmas.{value-is}
use Rattle.arena_table.proofs.pairs.value_at.Goals as goal

pub returns : goal.returns
returns g c = grind (arith, nat_tests, value-is)
