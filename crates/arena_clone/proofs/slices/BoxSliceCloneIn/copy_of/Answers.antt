use Rattle.std.proofs.lemmas.Bool.Decides.{nat_tests}
use Rattle.std.proofs.Common.{arith, refl}
use Rattle.std.proofs.lemmas.Result.{err_from_is_err_and}
use Rattle.arena_clone.proofs.LayoutLemmas.{readable_size, readable_layout}
use Rattle.arena_clone.proofs.SliceLemmas.{slice_refused, slice_value_refused, slice_made}
use Rattle.arena_clone.proofs.ThroughLemmas.{from_kept, row_held, row_beside, row_before}
use Rattle.arena_clone.proofs.slices.BoxSliceCloneIn.copy_of.Goals as goal

pub overflow_mul-self : goal.overflow_mul-self
overflow_mul-self g c = grind (arith, nat_tests, readable_size)

pub place-requires : goal.place-requires
place-requires g c = grind (arith, nat_tests, readable_layout)

pub returns-in_err-target : goal.returns-in_err-target
returns-in_err-target g c = grind (arith, nat_tests, err_from_is_err_and, slice_refused)

pub copy_row-requires-clause-source : goal.copy_row-requires-clause-source
copy_row-requires-clause-source g c =
    let placed = rw (c.SIZE.ensures, c.ALIGN.ensures) at c.in_ok-target.ensures in
    (from_kept (g.met.O.Origin.is_origin c.args.from.now) g.T.Item g.met.T.CloneIn.lawful c.args.self.now.block c.args.self.now.length
    placed.1.outcome.frame c.requires.held.0.readable c.requires.held.1).readable

pub copy_row-requires-clause-values : goal.copy_row-requires-clause-values
copy_row-requires-clause-values g c =
    let placed = rw (c.SIZE.ensures, c.ALIGN.ensures) at c.in_ok-target.ensures in
    row_held (g.met.O.Origin.is_origin c.args.from.now) g.T.Item g.met.T.CloneIn.lawful c.args.self.now.block c.args.self.now.length
    placed.1.outcome.frame c.requires.held.0.readable c.requires.held.1

pub copy_row-requires-clause-beside : goal.copy_row-requires-clause-beside
copy_row-requires-clause-beside g c =
    let placed = rw (c.SIZE.ensures, c.ALIGN.ensures) at c.in_ok-target.ensures in
    row_beside (g.met.O.Origin.is_origin c.args.from.now) g.T.Item g.met.T.CloneIn.lawful c.args.self.now.block c.args.self.now.length
    placed.1.outcome.frame c.requires.held.0.readable c.requires.held.1

pub returns-in_err-copy_row : goal.returns-in_err-copy_row
returns-in_err-copy_row g c =
    let placed = rw (c.SIZE.ensures, c.ALIGN.ensures) at c.in_ok-target.ensures in
    let p = err_from_is_err_and c.from_residual-in_err-copy_row.result c.from_residual-in_err-copy_row.ensures.1 in
    rw (p.1, p.2) (slice_value_refused g.T.Item _ _ _ c.args.self.now placed
    (row_before (g.met.O.Origin.is_origin c.args.from.now) g.T.Item g.met.T.CloneIn.lawful c.args.self.now.block c.args.self.now.length
    placed.1.outcome.frame c.requires.held.0.readable c.requires.held.1 c.in_err-copy_row.ensures))

pub returns : goal.returns
returns g c =
    let placed = rw (c.SIZE.ensures, c.ALIGN.ensures) at c.in_ok-target.ensures in
    slice_made g.T.Item g.T.CloneIn.kind c.args.ids (g.O.Origin.there c.args.from.now c.args.to.now.memory) c.args.self.now placed refl refl
    (row_before (g.met.O.Origin.is_origin c.args.from.now) g.T.Item g.met.T.CloneIn.lawful c.args.self.now.block c.args.self.now.length
    placed.1.outcome.frame c.requires.held.0.readable c.requires.held.1 c.in_ok-copy_row.ensures)
