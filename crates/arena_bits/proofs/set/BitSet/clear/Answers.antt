use Rattle.arena_bits.proofs.WholeLemmas.{becomes_empty}
use Rattle.arena_bits.proofs.set.BitSet.clear.Goals as goal

pub returns-clause-becomes : goal.returns-clause-becomes
returns-clause-becomes g c = becomes_empty _ _ c.args.self.now c.requires.held c.write_with.ensures.source c.write_with.ensures.edits
