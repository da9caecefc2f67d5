use Rattle.arena_table.specs.Contents.{kind}
use Rattle.arena_hash.proofs.KeyLemmas.{stands-under, texts-are}
use Rattle.arena_hash.proofs.laws.texts_law.Goals as goal

pub returns-clause-contents : goal.returns-clause-contents
returns-clause-contents g c = λ memory m q p there.
    stands-under (kind g.K.Item g.K.ArenaKey.key g.V.Item g.S.KeyHasher.hash_of) memory m q p there

pub returns-clause-texts : goal.returns-clause-texts
returns-clause-texts g c = λ memory m b held.
    texts-are (kind g.K.Item g.K.ArenaKey.key g.V.Item g.S.KeyHasher.hash_of) memory m b held
