use Rattle.std.proofs.Common.{rules}
use Rattle.std.specs.Int.{w32, from_le_bytes, to_le_bytes}
use Rattle.std.proofs.lemmas.Nat.{le_bytes_4}
use Rattle.hash_ring.proofs.WordLemmas.{same-ends}
use Rattle.hash_ring.proofs.words.same_halves.Goals as goal

pub returns-then-short_word : goal.returns-then-short_word
returns-then-short_word c =
    same-ends 4 (from_le_bytes w32) (to_le_bytes w32) le_bytes_4 c.args.one.now c.args.other.now c.short_word.result c.short_word-2.result
    _ _ c.requires.equal c.requires.least c.requires.most (search rules) (search rules) c.short_word.ensures c.short_word-2.ensures
    c.if-short_word.true c.short_word-then-short_word.ensures c.short_word-then-short_word-2.ensures
