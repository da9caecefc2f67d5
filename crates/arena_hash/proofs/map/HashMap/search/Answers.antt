use Rattle.std.proofs.Common.{◌<◌, ap, sym, ◌∙◌, Some, arith}
use Rattle.hash_ring.specs.Finite.{value_of}
use Rattle.arena_table.specs.Contents.{kind}
use Rattle.arena_table.proofs.HandleLemmas.{handle-shape}
use Rattle.arena_hash.proofs.MapLemmas.{map-table, taken-within, found-under, open-under}
use Rattle.arena_hash.proofs.map.HashMap.search.Goals as goal

pub look_by-look-requires-clause-held : goal.look_by-look-requires-clause-held
look_by-look-requires-clause-held g c = map-table _ _ _ c.requires.held

pub value_at-requires-clause-index : goal.value_at-requires-clause-index
value_at-requires-clause-index g c =
    let x = rw c.in-Taken.is at c.look_by-look.ensures.ends in
    taken-within _ c.args.a.now.memory c.args.self.now c.in-Taken.at x.0 c.requires.held x.1

pub value_at-requires-clause-shape : goal.value_at-requires-clause-shape
value_at-requires-clause-shape g c =
    let x = rw c.in-Taken.is at c.look_by-look.ensures.ends in
    let within : c.in-Taken.at < c.args.self.now.table.slots =
    taken-within _ c.args.a.now.memory c.args.self.now c.in-Taken.at x.0 c.requires.held x.1 in
    rw c.read-bytes.ensures (handle-shape g.K.Item g.V.Item c.args.a.now.memory c.args.self.now.table c.requires.keys_small
    c.requires.values_small c.requires.held.handle (omega (arith, within)))

pub returns-in-Taken-clause-value : goal.returns-in-Taken-clause-value
returns-in-Taken-clause-value g c =
    let x = rw c.in-Taken.is at c.look_by-look.ensures.ends in
    ap Some ((rw c.read-bytes.ensures at c.value_at.ensures) x.0 x.1)
    ∙ sym (ap value_of (found-under _ _ _ c.in-Taken.at x.0 _ c.requires.held x.1 x.2))

pub returns-in-Open-clause-value : goal.returns-in-Open-clause-value
returns-in-Open-clause-value g c =
    let k = kind g.K.Item g.K.ArenaKey.key g.V.Item g.S.KeyHasher.hash_of in
    sym (ap value_of (open-under k c.args.a.now.memory c.args.self.now _ (rw c.in-Open.is at c.look_by-look.ensures.ends).0))
