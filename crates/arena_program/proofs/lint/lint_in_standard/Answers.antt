use Rattle.arena_program.proofs.TextLemmas.{each_source}
use Rattle.arena_program.proofs.lint.lint_in_standard.Goals as goal

pub returns : goal.returns
returns g c = rw c.requires.kind at (each_source g.K.Chunks.ChunkSource.source g.L.PoolName.kind c.args.sources.items
    c.render_all.result c.render_all.ensures)
