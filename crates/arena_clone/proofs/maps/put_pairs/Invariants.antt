use Rattle.arena_hash.specs.Contents.{kind}
use Rattle.arena_hash.specs.Tables.{slots_in}
use Rattle.arena_clone.proofs.PutLemmas.{PutsFirst}
use Rattle.arena_clone.proofs.maps.put_pairs.Given as goal

abbrev pub invariant-loop-slot : goal.invariant-loop-slot
invariant-loop-slot g l =
    PutsFirst (kind g.K.Item g.K.ArenaKey.key g.V.Item g.S.KeyHasher.hash_of) g.K.CloneIn.kind g.V.CloneIn.kind l.ids
    (g.O.Origin.there l.from l.initial.to.memory) l.initial.to l.to l.fn.empty
    (slots_in g.K.Item g.V.Item (g.O.Origin.there l.from l.initial.to.memory) l.map.table) l.slot l.copy
