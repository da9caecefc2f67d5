use Rattle.std.proofs.lemmas.Bool.Decides.{nat_tests}
use Rattle.std.proofs.Common.{arith, refl}
use Rattle.std.proofs.lemmas.Result.{err_from_is_err_and}
use Rattle.hash_ring.proofs.PolicyLemmas.{slots-ring}
use Rattle.arena_hash.specs.declared.map.HashMap.{HashMap}
use Rattle.arena_hash.proofs.WholeLemmas.{places-none, places-table, places-refused}
use Rattle.arena_hash.proofs.map.HashMap.with_capacity_and_hasher_in.Goals as goal

pub returns-then-capacity-eq0-clause-placed : goal.returns-then-capacity-eq0-clause-placed
returns-then-capacity-eq0-clause-placed g c =
    places-none _ g.met.K.Item.layout g.met.V.Item.layout c.requires.keys_small c.requires.values_small _ _ _ _ c.if-capacity-eq0.true
    c.with_hasher_in.ensures

pub place-requires-clause-ring : goal.place-requires-clause-ring
place-requires-clause-ring g c = slots-ring c.args.capacity _ (omega arith) c.slots_for.ensures

pub returns-in_err-table-clause-placed : goal.returns-in_err-table-clause-placed
returns-in_err-table-clause-placed g c = grind (arith, nat_tests, err_from_is_err_and, places-refused)

pub returns-clause-placed : goal.returns-clause-placed
returns-clause-placed g c =
    let m : HashMap g.row.K.Denot g.row.V.Denot g.row.S.Denot = record { table = c.in_ok-table.table; len = 0; hasher = c.args.hasher } in
    let placed = c.in_ok-table.ensures in
    places-table _ g.met.K.Item.layout g.met.V.Item.layout c.requires.keys_small c.requires.values_small _ _ _ _ (omega arith) (omega arith)
    c.slots_for.ensures m placed.slots refl placed.asks placed.held placed.free placed.frame
