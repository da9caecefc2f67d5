use Rattle.std.proofs.Common.{[], ◌∷◌}
use Rattle.arena_chunks.proofs.Layers.{frame_keeps_beside}
use Rattle.example_blocks.proofs.pairs.write_beside.Goals as goal

pub returns-clause-other : goal.returns-clause-other
returns-clause-other g c = frame_keeps_beside _ _ c.args.one (c.args.one ∷ []) c.args.other c.write.ensures.writes.frame c.requires.other
    c.requires.apart
