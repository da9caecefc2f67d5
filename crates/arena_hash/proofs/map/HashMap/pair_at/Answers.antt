use Rattle.std.proofs.lemmas.Bool.Decides.{nat_tests}
use Rattle.std.proofs.Common.{arith}
use Rattle.arena_table.proofs.HandleLemmas.{handle-shape}
use Rattle.arena_table.proofs.SlotLemmas.{slot-free, slot-taken}
use Rattle.arena_hash.proofs.map.HashMap.pair_at.Goals as goal

pub bounds-bytes-slot : goal.bounds-bytes-slot
bounds-bytes-slot g c = grind (arith, nat_tests, handle-shape)

pub returns-then-bytes-slot-eq0 : goal.returns-then-bytes-slot-eq0
returns-then-bytes-slot-eq0 g c = grind (arith, nat_tests, handle-shape, slot-free)

pub returns : goal.returns
returns g c = grind (arith, nat_tests, handle-shape, slot-taken)
