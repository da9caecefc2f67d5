use Rattle.std.proofs.Common.{◌≡◌, ◌+◌, ◌<◌, ℕ, length, get_or}
use Rattle.arena_bits.specs.Walks.{words_in}
use Rattle.arena_bits.proofs.words.row_at.Given as goal

abbrev pub invariant-words : goal.invariant-words
invariant-words g l = (length l.row ≡ g.row.N) × ((k : ℕ) → k < l.k → get_or l.row k 0 ≡ get_or (words_in l.bytes) (l.i + k) 0)
