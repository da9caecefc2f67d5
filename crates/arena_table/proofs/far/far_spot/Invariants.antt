use Rattle.std.proofs.Common.{◌-◌}
use Rattle.hash_ring.specs.Marks.{home_of}
use Rattle.hash_ring.proofs.FarLemmas.{IsBetween}
use Rattle.arena_table.specs.Contents.{kind}
use Rattle.arena_table.specs.Tables.{pair_hash, slots_in}
use Rattle.arena_table.proofs.far.far_spot.Given as goal

abbrev pub invariant-slots : goal.invariant-slots
invariant-slots g l =
    IsBetween (λ p. home_of l.table.slots (pair_hash (kind g.K.Item g.K.ArenaKey.key g.V.Item g.S.KeyHasher.hash_of) l.a.memory l.hasher p))
    l.table.slots (home_of l.table.slots l.hash) (slots_in g.K.Item g.V.Item l.a.memory l.table) l.low l.high

abbrev pub decreases-slots : goal.decreases-slots
decreases-slots g l = l.high - l.low
