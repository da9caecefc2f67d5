use Rattle.std.proofs.Common.{arith, ap, refl, Some}
use Rattle.arena_hash.proofs.CallLemmas.{takes-out, takes-none}
use Rattle.arena_hash.proofs.MapLemmas.{map-table, taken-within}
use Rattle.arena_hash.proofs.map.HashMap.remove.Goals as goal

pub look-requires-clause-held : goal.look-requires-clause-held
look-requires-clause-held g c = map-table _ _ _ c.requires.held

pub value-value-requires-clause-index : goal.value-value-requires-clause-index
value-value-requires-clause-index g c =
    let x = rw c.in-Taken.is at c.look.ensures.ends in
    taken-within _ c.args.a.now.memory c.args.self.now c.in-Taken.at x.0 c.requires.held x.1

pub close-requires-clause-held : goal.close-requires-clause-held
close-requires-clause-held g c = map-table _ _ _ c.requires.held

pub close-requires-clause-taken : goal.close-requires-clause-taken
close-requires-clause-taken g c = let x = rw c.in-Taken.is at c.look.ensures.ends in (x.0, x.1)

pub returns-in-Taken : goal.returns-in-Taken
returns-in-Taken g c =
    let x = rw c.in-Taken.is at c.look.ensures.ends in
    takes-out _ g.met.K.Item.layout g.met.V.Item.layout c.requires.keys_small c.requires.values_small _ _ _ c.requires.held _ _ x.0 x.1 x.2
    c.close.ensures.places c.close.ensures.frame _ _ _ refl refl (omega (arith, c.close.ensures.closed.count, c.requires.held.count))
    c.close.ensures.held c.close.ensures.closed (ap Some (c.value-value.ensures x.0 x.1))

pub returns-in-Open : goal.returns-in-Open
returns-in-Open g c =
    takes-none _ g.met.K.Item.layout g.met.V.Item.layout c.requires.keys_small c.requires.values_small _ _ c.requires.held _
    (rw c.in-Open.is at c.look.ensures.ends).0 _ _ refl
