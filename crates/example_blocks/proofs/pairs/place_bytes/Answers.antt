use Rattle.std.proofs.Common.{sym, ◌∙◌, arith}
use Rattle.std.proofs.lemmas.Result.{err_from_is_err_and}
use Rattle.arena_chunks.proofs.Layers.{wrote_whole}
use Rattle.example_blocks.proofs.GrowthLemmas.{place_written}
use Rattle.example_blocks.proofs.pairs.place_bytes.Goals as goal

pub returns-in_err-block-clause-placed : goal.returns-in_err-block-clause-placed
returns-in_err-block-clause-placed g c =
    let p = err_from_is_err_and c.from_residual.result c.from_residual.ensures.1 in
    rw (p.1, p.2) c.in_err-block.ensures

pub write-requires-clause-readable : goal.write-requires-clause-readable
write-requires-clause-readable g c = c.in_ok-block.ensures.1.outcome.of_layout.readable

pub write-requires-clause-range : goal.write-requires-clause-range
write-requires-clause-range g c = omega (arith, c.in_ok-block.ensures.1.outcome.of_layout.of_size, c.requires)

pub returns-clause-placed : goal.returns-clause-placed
returns-clause-placed g c =
    place_written _ _ _ c.in_ok-block.block c.args.layout.size c.args.layout.align 0 c.args.bytes.now c.in_ok-block.ensures
    c.write.ensures.writes c.write.ensures.source

pub returns-clause-holds : goal.returns-clause-holds
returns-clause-holds g c =
    let is = c.in_ok-block.ensures.1.outcome.of_layout in
    record {
      readable = rw c.write.ensures.writes.state is.readable;
      bytes = wrote_whole _ _ c.in_ok-block.block c.args.bytes.now c.write.ensures.writes (c.requires ∙ sym is.of_size);
    }
