use Rattle.std.proofs.Common.{ap, ◌∷◌, ◌++◌}
use Rattle.arena_hash.specs.Contents.{kind}
use Rattle.arena_hash.specs.Maps.{pairs_in}
use Rattle.arena_clone.specs.MapKind.{pair_of, table_ask}
use Rattle.arena_clone.specs.FlatLaws.{none_in_all}
use Rattle.arena_clone.proofs.laws.one_table_law.Goals as goal

pub returns : goal.returns
returns g c = λ keys values m h.
    let types = kind g.K.Item g.K.ArenaKey.key g.V.Item g.S.KeyHasher.hash_of in
    ap (λ asks. table_ask types h.len ∷ asks) (none_in_all ((pair_of g.K.CloneIn.kind g.V.CloneIn.kind).asks m)
    (λ p i. keys m p.0 i ++ values m p.1 i) (pairs_in types m h))
