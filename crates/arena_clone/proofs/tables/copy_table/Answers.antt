use Rattle.std.proofs.lemmas.Bool.Decides.{nat_tests}
use Rattle.std.proofs.Common.{arith, sym}
use Rattle.std.proofs.lemmas.Result.{err_from_is_err_and}
use Rattle.arena_clone.proofs.LayoutLemmas.{readable_layout}
use Rattle.arena_clone.proofs.TableLemmas.{table_is_align, table_copy_refused, table_copied}
use Rattle.arena_clone.proofs.tables.copy_table.Goals as goal

pub place_copy-requires-clause-fits : goal.place_copy-requires-clause-fits
place_copy-requires-clause-fits g c = grind (arith, nat_tests, table_is_align, readable_layout)

pub returns-in_err-block : goal.returns-in_err-block
returns-in_err-block g c =
    let p = err_from_is_err_and c.from_residual.result c.from_residual.ensures.1 in
    let place = c.requires.held.0.handle.place in
    rw (p.1, p.2) (λ ids flat other.
    table_copy_refused _ g.S.Default.is_default _ _ g.met.K.CloneKey.keeps _ (g.met.K.CloneIn.lawful.flat ids flat)
    (g.met.V.CloneIn.lawful.flat ids other) c.requires.fixed _ c.args.to.now c.place_copy.new.to _ c.requires.full c.requires.held.0 _
    (rw (place.of_size, place.of_align) at c.in_err-block.ensures.placed))

pub returns : goal.returns
returns g c ids flat other =
    let place = c.requires.held.0.handle.place in
    table_copied _ g.S.Default.is_default _ _ g.met.K.CloneKey.keeps _ (g.met.K.CloneIn.lawful.flat ids flat)
    (g.met.V.CloneIn.lawful.flat ids other) c.requires.fixed _ c.args.to.now c.place_copy.new.to _ c.requires.full c.requires.held.0
    c.in_ok-block.block c.default.result c.default.ensures (rw (place.of_size, place.of_align) at c.in_ok-block.ensures.placed)
    (sym c.in_ok-block.ensures.bytes)
