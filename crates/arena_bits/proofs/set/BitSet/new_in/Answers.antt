use Rattle.std.proofs.Common.{arith}
use Rattle.arena_bits.proofs.WholeLemmas.{new_set}
use Rattle.arena_bits.proofs.set.BitSet.new_in.Goals as goal

pub returns : goal.returns
returns g c =
    new_set _ c.place_words.new.a _ _ _ _ (omega arith) c.in_ok-block.ensures c.write_with.ensures.edits c.write_with.ensures.source
