use Rattle.arena_table.specs.Contents.{kind}
use Rattle.arena_hash.proofs.CostLemmas.{insert-all}
use Rattle.arena_hash.proofs.laws.insert_law.Goals as goal

pub returns-clause-map : goal.returns-clause-map
returns-clause-map g c = λ old new m w key value result one keys_small values_small held puts.
    insert-all (kind g.K.Item g.K.ArenaKey.key g.V.Item g.S.KeyHasher.hash_of) g.met.K.Item.layout g.met.V.Item.layout keys_small
    values_small old new m w one held.handle.ring held.within _ result puts.made puts.costs puts.err

pub returns-clause-set : goal.returns-clause-set
returns-clause-set g c = λ old new m w item value result one keys_small values_small held puts.
    insert-all (kind g.K.Item g.K.ArenaKey.key g.V.Item g.S.KeyHasher.hash_of) g.met.K.Item.layout g.met.V.Item.layout keys_small
    values_small old new m w one held.handle.ring held.within _ result puts.made puts.costs puts.err
