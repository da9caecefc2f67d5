use Rattle.arena_bits.specs.Sets.{words_of}
use Rattle.arena_bits.proofs.BitLemmas.{bits_raised}
use Rattle.arena_bits.proofs.SetLemmas.{word_edited}
use Rattle.arena_bits.proofs.set.BitSet.set_bit.Goals as goal

pub returns-clause-becomes : goal.returns-clause-becomes
returns-clause-becomes g c =
    word_edited _ _ c.args.self.now c.args.bit _ _ c.requires.held c.requires.within c.write_with.ensures.source c.write_with.ensures.edits
    (bits_raised (words_of c.args.a.now.memory c.args.self.now) c.args.bit)
