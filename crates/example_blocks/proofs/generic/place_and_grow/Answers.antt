use Rattle.std.proofs.Common.{[], ◌∷◌, inl, inr, arith}
use Rattle.std.proofs.lemmas.Result.{err_from_is_err_and}
use Rattle.example_blocks.proofs.generic.place_and_grow.Goals as goal

pub returns-in_err-block-clause-calls : goal.returns-in_err-block-clause-calls
returns-in_err-block-clause-calls g c =
    let p = err_from_is_err_and c.from_residual.result c.from_residual.ensures.1 in
    rw (p.1, p.2) (inl c.in_err-block.ensures)

pub grow-requires-clause-readable : goal.grow-requires-clause-readable
grow-requires-clause-readable g c = c.in_ok-block.ensures.1.outcome.of_layout.readable

pub grow-requires-clause-size : goal.grow-requires-clause-size
grow-requires-clause-size g c = omega (arith, c.in_ok-block.ensures.1.outcome.of_layout.of_size, c.requires)

pub returns-in_err-grown-clause-calls : goal.returns-in_err-grown-clause-calls
returns-in_err-grown-clause-calls g c =
    let p = err_from_is_err_and c.from_residual-in_err-grown.result c.from_residual-in_err-grown.ensures.1 in
    rw (p.1, p.2) (inr (record { between = _; block = _; placed = c.in_ok-block.ensures; follows = c.in_err-grown.ensures }))

pub returns-clause-calls : goal.returns-clause-calls
returns-clause-calls g c = record { between = _; block = _; placed = c.in_ok-block.ensures; follows = c.in_ok-grown.ensures }

pub returns-clause-is_block : goal.returns-clause-is_block
returns-clause-is_block g c =
    let small = c.args.small in
    let large = c.args.large in
    c.resized.ensures.is_block _ _ _ c.in_ok-block.block c.in_ok-grown.grown large.size large.align large.valid c.in_ok-grown.ensures
    (c.placed.ensures.is_block _ _ small.size small.align c.in_ok-block.block small.valid c.in_ok-block.ensures)

pub returns-clause-frame : goal.returns-clause-frame
returns-clause-frame g c =
    c.frames.ensures.then _ _ _ [] (c.in_ok-block.block ∷ [])
    (c.in_ok-grown.grown ∷ []) c.in_ok-block.ensures.1.outcome.frame c.in_ok-grown.ensures.1.outcome.frame
