use Rattle.std.proofs.Common.{[], ◌∷◌, arith}
use Rattle.arena_chunks.proofs.Layers.{frame_then}
use Rattle.example_blocks.proofs.BufferLemmas.{pushed}
use Rattle.example_blocks.proofs.GrowthLemmas.{grows_written}
use Rattle.example_blocks.proofs.buffer.Buffer.push.Goals as goal

pub returns-clause-frame : goal.returns-clause-frame
returns-clause-frame g c =
    frame_then _ _ _ (c.args.self.now.block ∷ []) (c.in_ok-block.block ∷ [])
    (c.in_ok-block.block ∷ []) c.in_ok-block.ensures.ok.frame c.write.ensures.writes.frame

pub returns-clause-grown : goal.returns-clause-grown
returns-clause-grown g c full layout =
    grows_written _ _ _ c.args.self.now.block c.in_ok-block.block _ 1 c.args.self.now.length (c.args.byte ∷ [])
    (c.in_ok-block.ensures.grown full layout) c.write.ensures.writes c.write.ensures.source (omega arith)

pub returns-clause-ok : goal.returns-clause-ok
returns-clause-ok g c =
    pushed _ _ _ c.args.self.now c.in_ok-block.block c.args.byte c.in_ok-block.ensures.ok c.write.ensures.writes
