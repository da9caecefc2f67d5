use Rattle.std.proofs.Common.{refl, arith}
use Rattle.arena_bits.specs.Walks.{words_in}
use Rattle.arena_bits.proofs.ScanLemmas.{scan_word}
use Rattle.arena_bits.proofs.ones.walk.Goals as goal

pub invariant_of-result : goal.invariant_of-result
invariant_of-result g c = (scan_word (words_in c.args.bytes.now) c.args.capacity 0 _ c.first_word.ensures refl (omega arith), c.requires)
