use Rattle.hash_ring.proofs.Equal.{AreFound}
use Rattle.arena_table.specs.Contents.{kind, content_in}
use Rattle.arena_hash.specs.Maps.{map_in}
use Rattle.arena_hash.proofs.map.HashMap.eq.Given as goal

abbrev pub invariant-loop-key : goal.invariant-loop-key
invariant-loop-key g l =
    AreFound (content_in g.K.ArenaKey.key l.fn.a.memory) g.V.PartialEq.eq
    (map_in (kind g.K.Item g.K.ArenaKey.key g.V.Item g.S.KeyHasher.hash_of) l.fn.a.memory l.fn.other) l.initial.key-iterator l.yielded
    l.key-iterator
