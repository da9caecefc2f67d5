use Rattle.std.proofs.Common.{◌<◌, arith, ap, refl, Some, None}
use Rattle.hash_ring.specs.Policy.{limit}
use Rattle.arena_table.specs.Tables.{IsTextBeside}
use Rattle.arena_hash.proofs.CallLemmas.{puts-there, puts-room}
use Rattle.arena_hash.proofs.MapLemmas.{map-table}
use Rattle.arena_hash.proofs.map.HashMap.insert_at.Goals as goal

pub replace-requires-clause-held : goal.replace-requires-clause-held
replace-requires-clause-held g c = map-table _ _ _ c.requires.held

pub replace-requires-clause-taken : goal.replace-requires-clause-taken
replace-requires-clause-taken g c = let x = rw c.in-Taken.is at c.requires.look.ends in (x.0, x.1)

pub put-requires-clause-held : goal.put-requires-clause-held
put-requires-clause-held g c = map-table _ _ _ c.requires.held

pub returns-in-Taken : goal.returns-in-Taken
returns-in-Taken g c =
    let x = rw c.in-Taken.is at c.requires.look.ends in
    let replaced = c.replace.ensures.replaced x.0 x.1 in
    puts-there _ g.met.K.Item.layout g.met.V.Item.layout c.requires.keys_small c.requires.values_small _ _ _ c.requires.held _ c.in-Taken.at
    x.0 x.1 x.2 c.replace.ensures.places c.replace.ensures.frame _ _ _ c.replace.ensures.held replaced.1 (ap Some replaced.0)

pub returns-then-self-limit_of : goal.returns-then-self-limit_of
returns-then-self-limit_of g c =
    let m = c.args.self.now in
    let beside : IsTextBeside g.K.ArenaKey.key c.args.a.now.memory m.table.block c.args.key = record
    { readable = c.requires.text; apart = c.requires.apart } in
    let room : m.len < limit m.table.slots = omega (arith, c.limit_of.ensures, c.if-self-limit_of.true) in
    puts-room _ g.met.K.Item.layout g.met.V.Item.layout c.requires.keys_small c.requires.values_small _ _ c.requires.held _
    (rw c.in-Open.is at c.requires.look.ends).0 _ _ _ _ None beside room refl refl refl c.put.ensures.places c.put.ensures.frame
    c.put.ensures.held c.put.ensures.settled refl

pub insert_grown-requires-clause-lacks : goal.insert_grown-requires-clause-lacks
insert_grown-requires-clause-lacks g c = (rw c.in-Open.is at c.requires.look.ends).0

pub insert_grown-requires-clause-full : goal.insert_grown-requires-clause-full
insert_grown-requires-clause-full g c = omega (arith, c.limit_of.ensures, c.if-self-limit_of.false)
