use Rattle.std.proofs.Common.{arith}
use Rattle.arena_bits.proofs.JoinLemmas.{joining_word}
use Rattle.arena_bits.proofs.whole.join_words.Goals as goal

pub words-preserved : goal.words-preserved
words-preserved g c =
    joining_word _ _ _ c.args.set.now c.args.other.now c.words.i c.words.invariant c.requires.apart c.write_with.ensures.source
    c.word_at-mask.result (rw c.bytes.ensures.words at c.word_at-mask.ensures) c.write_with.ensures.edits (omega arith)
