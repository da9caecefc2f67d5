use Rattle.std.proofs.Common.{◌≡◌, ℕ, ◌<◌, get_or}
use Rattle.arena_bits.specs.Walks.{words_in}
use Rattle.arena_bits.proofs.words.are_zero.Given as goal

abbrev pub invariant-words : goal.invariant-words
invariant-words l = (j : ℕ) → j < l.i → get_or (words_in l.bytes) j 0 ≡ 0
