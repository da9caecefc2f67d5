use Rattle.std.proofs.Common.{◌++◌, drop, replicate, subst, take}
use Rattle.hash_ring.specs.Walks.{AreTaken}
use Rattle.hash_ring.proofs.Lanes.{taken-padded}
use Rattle.hash_ring.proofs.scan.taken_of_few.Goals as goal

pub returns : goal.returns
returns c =
    taken-padded (take c.args.slots c.args.bytes.now) 64 c.args.slots c.taken_of_many.result
    (subst (λ m. AreTaken (m ++ drop c.args.slots (replicate 64 0)) 0 c.taken_of_many.result) c.copy_from_slice.ensures.after
    c.taken_of_many.ensures)
