use Rattle.arena_bits.proofs.set.BitSet.is_empty.Goals as goal

pub returns : goal.returns
returns g c = rw c.bytes.ensures.words at c.are_zero.ensures
