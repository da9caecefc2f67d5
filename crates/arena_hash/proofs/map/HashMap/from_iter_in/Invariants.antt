use Rattle.arena_table.specs.Contents.{kind}
use Rattle.arena_hash.proofs.CollectLemmas.{IsCollecting}
use Rattle.arena_hash.proofs.map.HashMap.from_iter_in.Given as goal

abbrev pub invariant-loop-pair : goal.invariant-loop-pair
invariant-loop-pair g l =
    IsCollecting (kind g.K.Item g.K.ArenaKey.key g.V.Item g.S.KeyHasher.hash_of) g.I.Iterator.next_gives l.fn.iter l.iter l.fn.a l.a l.map
    × g.S.Default.is_default l.map.hasher
