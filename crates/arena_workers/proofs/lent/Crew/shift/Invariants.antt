use Rattle.std.proofs.Common.{◌≡◌}
use Rattle.std.specs.List.{enumerate_from}
use Rattle.arena_workers.specs.Working.{IsServed}
use Rattle.arena_workers.specs.Order.{IsShift}
use Rattle.arena_workers.proofs.lent.Crew.shift.Given as goal

abbrev pub invariant-loop-i : goal.invariant-loop-i
invariant-loop-i g l =
    let served = IsServed g.K.Chunks.ChunkSource.source g.L.PoolName.kind g.W.Work.terms in
    (l.seat.table ≡ l.claims) × IsShift served (enumerate_from 0 l.pieces) l.done.items
