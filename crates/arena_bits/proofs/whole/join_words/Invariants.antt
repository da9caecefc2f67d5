use Rattle.arena_bits.specs.Sets.{JoinsFirst}
use Rattle.arena_bits.proofs.whole.join_words.Given as goal

abbrev pub invariant-words : goal.invariant-words
invariant-words g l = JoinsFirst l.fn.a l.a l.set l.other l.i
