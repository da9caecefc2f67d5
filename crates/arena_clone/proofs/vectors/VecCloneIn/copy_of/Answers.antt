use Rattle.std.proofs.lemmas.Bool.Decides.{nat_tests}
use Rattle.std.proofs.Common.{arith, refl}
use Rattle.std.proofs.lemmas.Result.{err_from_is_err_and}
use Rattle.arena_clone.proofs.ThroughLemmas.{from_kept, row_held, row_beside, row_before}
use Rattle.arena_clone.proofs.VectorLemmas.{vec_refused, vec_value_refused, vec_made}
use Rattle.arena_clone.proofs.vectors.VecCloneIn.copy_of.Goals as goal

pub returns-in_err-copy : goal.returns-in_err-copy
returns-in_err-copy g c = grind (arith, nat_tests, err_from_is_err_and, vec_refused)

pub copy_row-requires-clause-source : goal.copy_row-requires-clause-source
copy_row-requires-clause-source g c =
    (from_kept (g.met.O.Origin.is_origin c.args.from.now) g.T.Item g.met.T.CloneIn.lawful c.args.self.now.raw.block c.args.self.now.raw.len
    c.in_ok-copy.ensures.frame c.requires.held.0.place.readable c.requires.held.1).readable

pub copy_row-requires-clause-values : goal.copy_row-requires-clause-values
copy_row-requires-clause-values g c =
    row_held (g.met.O.Origin.is_origin c.args.from.now) g.T.Item g.met.T.CloneIn.lawful c.args.self.now.raw.block c.args.self.now.raw.len
    c.in_ok-copy.ensures.frame c.requires.held.0.place.readable c.requires.held.1

pub copy_row-requires-clause-beside : goal.copy_row-requires-clause-beside
copy_row-requires-clause-beside g c =
    row_beside (g.met.O.Origin.is_origin c.args.from.now) g.T.Item g.met.T.CloneIn.lawful c.args.self.now.raw.block c.args.self.now.raw.len
    c.in_ok-copy.ensures.frame c.requires.held.0.place.readable c.requires.held.1

pub returns-in_err-copy_row : goal.returns-in_err-copy_row
returns-in_err-copy_row g c =
    let p = err_from_is_err_and c.from_residual-in_err-copy_row.result c.from_residual-in_err-copy_row.ensures.1 in
    rw (p.1, p.2) (vec_value_refused _ _ _ _ c.args.self.now c.in_ok-copy.ensures
    (row_before (g.met.O.Origin.is_origin c.args.from.now) g.T.Item g.met.T.CloneIn.lawful c.args.self.now.raw.block c.args.self.now.raw.len
    c.in_ok-copy.ensures.frame c.requires.held.0.place.readable c.requires.held.1 c.in_err-copy_row.ensures))

pub returns : goal.returns
returns g c =
    vec_made _ _ _ _ c.args.self.now c.in_ok-copy.ensures refl refl refl
    (row_before (g.met.O.Origin.is_origin c.args.from.now) g.T.Item g.met.T.CloneIn.lawful c.args.self.now.raw.block c.args.self.now.raw.len
    c.in_ok-copy.ensures.frame c.requires.held.0.place.readable c.requires.held.1 c.in_ok-copy_row.ensures)
