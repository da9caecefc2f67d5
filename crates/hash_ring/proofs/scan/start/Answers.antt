use Rattle.std.proofs.Common.{arith, take}
use Rattle.hash_ring.proofs.Scanning.{taken-free, taken-take}
use Rattle.hash_ring.proofs.scan.start.Goals as goal

pub returns-then-slots-lt64-clause-free : goal.returns-then-slots-lt64-clause-free
returns-then-slots-lt64-clause-free c =
    taken-free c.args.slots (take c.args.slots c.args.bytes.now) (record { base = 0; rest = c.taken_of_few.result })
    c.taken_of_few.type_inv c.taken_of_few.ensures

pub returns-else-slots-lt64-clause-free : goal.returns-else-slots-lt64-clause-free
returns-else-slots-lt64-clause-free c =
    taken-free c.args.slots (take c.args.slots c.args.bytes.now) (record { base = 0; rest = c.taken_of_many.result })
    c.taken_of_many.type_inv
    (taken-take c.args.slots c.args.bytes.now 0 c.taken_of_many.result (omega (arith, c.if-slots-lt64.false)) c.taken_of_many.ensures)
