use Rattle.std.proofs.Common.{arith}
use Rattle.std.proofs.lemmas.Result.{err_from_is_err_and}
use Rattle.example_blocks.proofs.beside.place_another.Goals as goal

pub returns-in_err-b-clause-places : goal.returns-in_err-b-clause-places
returns-in_err-b-clause-places g c =
    let p = err_from_is_err_and c.from_residual.result c.from_residual.ensures.1 in
    rw (p.1, p.2) c.in_err-b.ensures

pub returns-clause-other : goal.returns-clause-other
returns-clause-other g c =
    let places = c.in_ok-b.ensures in
    let earlier = c.requires.earlier in
    c.address_law.ensures.placed _ _ g.T.Item.SIZE g.T.Item.ALIGN c.in_ok-b.b.block c.args.earlier.block places.placed earlier.readable
    (omega (arith, places.held.of_size, c.requires.filled)) (omega (arith, earlier.of_size, c.requires.before))

pub returns-clause-real : goal.returns-clause-real
returns-clause-real g c =
    let places = c.in_ok-b.ensures in
    c.address_law.ensures.dummy _ c.in_ok-b.b.block places.placed.1.valid.exit places.held.readable
    (omega (arith, places.held.of_size, c.requires.filled))
