use Rattle.std.proofs.Common.{rules}
use Rattle.std.specs.Int.{w64, from_le_bytes, to_le_bytes}
use Rattle.std.proofs.lemmas.Nat.{le_bytes_8}
use Rattle.hash_ring.proofs.WordLemmas.{same-ends}
use Rattle.hash_ring.proofs.words.same_words.Goals as goal

pub returns-then-long_word : goal.returns-then-long_word
returns-then-long_word c =
    same-ends 8 (from_le_bytes w64) (to_le_bytes w64) le_bytes_8 c.args.one.now c.args.other.now c.long_word.result c.long_word-2.result
    _ _ c.requires.equal c.requires.least c.requires.most (search rules) (search rules) c.long_word.ensures c.long_word-2.ensures
    c.if-long_word.true c.long_word-then-long_word.ensures c.long_word-then-long_word-2.ensures
