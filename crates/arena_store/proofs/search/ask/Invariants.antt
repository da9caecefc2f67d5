use Rattle.std.proofs.Common.{◌+◌, ◌-◌}
use Rattle.arena_rules.specs.Search.{entries}
use Rattle.arena_store.proofs.Asking.{Asking}
use Rattle.arena_store.proofs.search.ask.Given as goal

abbrev pub invariant-loop-tried : goal.invariant-loop-tried
invariant-loop-tried g l =
    Asking (entries l.base l.layout.size l.layout.align l.fn.first l.least) (entries l.base l.layout.size l.layout.align l.tried l.least)
    l.layout.align l.refused (g.C.ChunkSource.source l.initial.chunks) (g.C.ChunkSource.source l.chunks)

abbrev pub decreases-loop-tried : goal.decreases-loop-tried
decreases-loop-tried g l = l.tried + 1 - l.least
