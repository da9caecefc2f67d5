use Rattle.std.proofs.lemmas.Bool.Decides.{nat_tests}
use Rattle.std.proofs.Common.{length-append, arith}
use Rattle.arena_table.proofs.SlotLemmas.{slot-set, mid-splice, pair-back}
use Rattle.arena_table.proofs.pairs.set_slot.Goals as goal

pub returns-clause-sets : goal.returns-clause-sets
returns-clause-sets g c = grind (arith, nat_tests, length-append, pair-back, mid-splice, slot-set)
