use Rattle.std.proofs.Common.{refl}
use Rattle.arena_hash.specs.declared.map.HashMap.{HashMap}
use Rattle.arena_hash.proofs.WholeLemmas.{new-map}
use Rattle.arena_hash.proofs.map.HashMap.with_hasher_in.Goals as goal

pub returns : goal.returns
returns g c =
    let m : HashMap g.row.K.Denot g.row.V.Denot g.row.S.Denot = record { table = c.none.result; len = 0; hasher = c.args.hasher } in
    new-map _ _ c.none.ensures.held c.none.ensures.slots c.none.ensures.size refl
