use Rattle.std.proofs.Common.{◌/◌, length, arith, rules}
use Rattle.arena_bits.proofs.WholeLemmas.{bits_none, some_bit}
use Rattle.arena_bits.proofs.WordLemmas.{length-words}
use Rattle.arena_bits.proofs.words.are_zero.Goals as goal

pub returns-then-word_at-ne0 : goal.returns-then-word_at-ne0
returns-then-word_at-ne0 c = some_bit _ c.words.i c.word_at.result c.word_at.ensures (omega arith) (search rules)

pub returns : goal.returns
returns c = bits_none _ (λ j within. c.words.invariant j (omega (arith, length-words (length c.args.bytes.now / 8) c.args.bytes.now)))
