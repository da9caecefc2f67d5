use Rattle.std.proofs.Common.{[], ◌∷◌}
use Rattle.arena_chunks.proofs.Layers.{frame_keeps_beside}
use Rattle.example_blocks.proofs.generic.grow_beside.Goals as goal

pub returns-clause-other : goal.returns-clause-other
returns-clause-other g c = frame_keeps_beside _ _ c.args.block (c.in_ok-grown.grown ∷ []) c.args.other c.in_ok-grown.ensures.1.outcome.frame
    c.requires.other c.requires.apart
