use Rattle.arena_program.proofs.TextLemmas.{each_script}
use Rattle.arena_program.proofs.pools.in_pool.Goals as goal

pub returns : goal.returns
returns g c = rw c.requires.kind at (each_script g.K.Chunks.ChunkSource.source g.L.PoolName.kind g.J.Job.worked c.args.scripts.items
    c.render_all.result c.render_all.ensures)
