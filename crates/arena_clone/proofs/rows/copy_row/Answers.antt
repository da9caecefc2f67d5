use Rattle.std.proofs.lemmas.Bool.Decides.{nat_tests}
use Rattle.std.proofs.Common.{arith, ◌∙◌, sym}
use Rattle.std.proofs.lemmas.Result.{err_from_is_err_and}
use Rattle.arena_items.specs.Values.{elements, bytes_of}
use Rattle.arena_items.proofs.Layers.{length-elements}
use Rattle.arena_clone.proofs.FlatLemmas.{row_written, front_written}
use Rattle.arena_clone.proofs.OriginLemmas.{row_value_held, row_more, row_refused}
use Rattle.arena_clone.proofs.RowLemmas.{first_none, first_all}
use Rattle.arena_clone.proofs.rows.copy_row.Goals as goal

pub loop-i-init : goal.loop-i-init
loop-i-init g c = first_none g.T.Item g.met.T.CloneIn.lawful
    (elements g.T.Item.SIZE g.T.Item.decoded c.args.row.count
    (bytes_of (g.O.Origin.there c.args.from.now c.args.to.now.memory) c.args.row.source)) c.requires.target

pub returns-then-is_flat : goal.returns-then-is_flat
returns-then-is_flat g c =
    let m = g.O.Origin.there c.args.from.now c.args.to.now.memory in
    let writes = rw c.SIZE.ensures at c.copy_front.ensures.writes in
    let flat = g.met.T.CloneIn.lawful.flat c.args.ids (sym c.is_flat.ensures ∙ c.if-is_flat.true) in
    row_written _ _ flat _ _ _ _ _ _ _ _ tt writes c.copy_front.ensures.source c.requires.target
    (front_written g.T.Item.decoded m _ _ c.args.row.source _ g.T.Item.SIZE c.args.row.count c.requires.source_room c.requires.target_room
    writes)

pub copy_of-requires-clause-held : goal.copy_of-requires-clause-held
copy_of-requires-clause-held g c =
    row_value_held (g.met.O.Origin.is_origin c.args.from.now) g.T.Item g.met.T.CloneIn.lawful c.args.row.source c.args.row.count c.loop-i.i
    c.loop-i.invariant c.requires.source c.requires.values c.requires.beside
    (rw c.arena.ensures at (c.item_at-value.ensures c.args.row.count (omega arith)))

pub returns-in_err-copy : goal.returns-in_err-copy
returns-in_err-copy g c = grind (arith, nat_tests, err_from_is_err_and, row_refused)

pub loop-i-preserved : goal.loop-i-preserved
loop-i-preserved g c =
    let put = c.put_item.ensures in
    row_more (g.met.O.Origin.is_origin c.args.from.now) g.T.Item g.met.T.CloneIn.lawful c.args.row.source c.args.row.count c.loop-i.i
    c.loop-i.invariant c.requires.source c.requires.values c.requires.beside
    (rw c.arena.ensures at (c.item_at-value.ensures c.args.row.count (omega arith))) c.in_ok-copy.ensures put.writes put.source put.push

pub returns : goal.returns
returns g c = grind (arith, nat_tests, length-elements, first_all)
