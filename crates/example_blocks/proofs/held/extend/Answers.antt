use Rattle.std.proofs.Common.{◌≡◌, ℕ, ◌+◌, List, ◌++◌, length, min, ap, ◌∙◌, arith}
use Rattle.std.proofs.lemmas.Result.{err_from_is_err_and}
use Rattle.arena_chunks.proofs.Layers.{wrote_behind}
use Rattle.example_blocks.proofs.GrowthLemmas.{grows_written}
use Rattle.example_blocks.proofs.held.extend.Goals as goal

pub returns-in_err-grown-clause-grown : goal.returns-in_err-grown-clause-grown
returns-in_err-grown-clause-grown g c =
    let p = err_from_is_err_and c.from_residual.result c.from_residual.ensures.1 in
    rw (p.1, p.2) c.in_err-grown.ensures

pub write-requires-clause-readable : goal.write-requires-clause-readable
write-requires-clause-readable g c = c.in_ok-grown.ensures.1.outcome.of_layout.readable

pub write-requires-clause-range : goal.write-requires-clause-range
write-requires-clause-range g c = omega (arith, c.in_ok-grown.ensures.1.outcome.of_layout.of_size, c.requires.size)

pub returns-clause-grown : goal.returns-clause-grown
returns-clause-grown g c =
    grows_written _ _ _ c.args.block c.in_ok-grown.grown c.args.layout.size c.args.layout.align c.args.block.size c.args.bytes.now
    c.in_ok-grown.ensures c.write.ensures.writes c.write.ensures.source (omega arith)

pub returns-clause-bytes : goal.returns-clause-bytes
returns-clause-bytes g c =
    let is = c.in_ok-grown.ensures.1.outcome in
    let size : c.in_ok-grown.grown.size ≡ c.args.block.size + length c.args.bytes.now =
    omega (arith, is.of_layout.of_size, c.requires.size) in
    let kept : min c.args.block.size c.args.layout.size ≡ c.args.block.size = omega (arith, c.requires.size) in
    rw size (wrote_behind _ _ c.in_ok-grown.grown c.args.block.size c.args.bytes.now c.write.ensures.writes
    ∙ ap (λ (all : List ℕ). all ++ c.args.bytes.now) (rw kept at is.bytes))
