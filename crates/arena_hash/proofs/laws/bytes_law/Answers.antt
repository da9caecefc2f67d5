use Rattle.std.proofs.lemmas.Bool.Decides.{nat_tests}
use Rattle.std.proofs.Common.{◌-◌, arith}
use Rattle.hash_ring.specs.Policy.{slot_size, table_align, unit}
use Rattle.hash_ring.proofs.PolicyLemmas.{table-holds, capacity-bytes, full-credit, unit-covers}
use Rattle.arena_hash.proofs.laws.bytes_law.Goals as goal

pub returns-clause-pairs : goal.returns-clause-pairs
returns-clause-pairs g c = grind (arith, nat_tests, table-holds)

pub returns-clause-table : goal.returns-clause-table
returns-clause-table g c =
    let k = g.K.Item in
    let v = g.V.Item in
    capacity-bytes (slot_size k.SIZE v.SIZE) (table_align k.ALIGN v.ALIGN - 1) (unit k.SIZE v.SIZE k.ALIGN v.ALIGN)
    (omega (arith, unit-covers k.SIZE v.SIZE k.ALIGN v.ALIGN))

pub returns-clause-full : goal.returns-clause-full
returns-clause-full g c = grind (arith, nat_tests, full-credit)
