use Rattle.std.proofs.Common.{arith, refl}
use Rattle.arena_table.specs.Contents.{kind}
use Rattle.arena_hash.specs.declared.map.HashMap.{HashMap}
use Rattle.arena_hash.proofs.AccountLemmas.{free-costs}
use Rattle.arena_hash.proofs.FreeLemmas.{free-map, free-is}
use Rattle.arena_hash.proofs.map.HashMap.clear.Goals as goal

pub returns-clause-becomes : goal.returns-clause-becomes
returns-clause-becomes g c =
    let k = kind g.K.Item g.K.ArenaKey.key g.V.Item g.S.KeyHasher.hash_of in
    let freed = c.free_all.ensures in
    let m = c.args.self.now in
    let w : HashMap g.row.K.Denot g.row.V.Denot g.row.S.Denot = record { table = m.table; len = 0; hasher = m.hasher } in
    record {
      held = free-map _ _ _ freed.free freed.held refl;
      map_is = free-is k c.free_all.new.a.memory w freed.free;
      table = refl;
      hasher = refl;
      places = freed.places;
      costs = free-costs _ g.met.K.Item.layout g.met.V.Item.layout c.requires.keys_small c.requires.values_small _ _ _ _ freed.places refl
          (omega arith);
      frame = freed.frame;
    }
