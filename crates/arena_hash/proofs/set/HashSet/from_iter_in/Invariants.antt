use Rattle.arena_hash.specs.Sets.{set_kind, StepsInPairs}
use Rattle.arena_hash.proofs.CollectLemmas.{IsCollecting}
use Rattle.arena_hash.proofs.set.HashSet.from_iter_in.Given as goal

abbrev pub invariant-loop-item : goal.invariant-loop-item
invariant-loop-item g l =
    IsCollecting (set_kind g.T.Item g.T.ArenaKey.key g.S.KeyHasher.hash_of) (StepsInPairs g.I.Iterator.next_gives) l.fn.iter l.iter l.fn.a
    l.a l.map
    × g.S.Default.is_default l.map.hasher
