use Rattle.arena_workers.specs.Working.{IsServed}
use Rattle.arena_workers.proofs.OrderLemmas.{longer}
use Rattle.arena_workers.proofs.lent.Crew.shift.Goals as goal

pub loop-i-preserved : goal.loop-i-preserved
loop-i-preserved g c =
    let served = IsServed g.K.Chunks.ChunkSource.source g.L.PoolName.kind g.W.Work.terms in (
      c.claim.ensures.seat,
      rw (c.push_reserved.ensures.items, c.reserve.ensures.items)
          (longer served c.args.pieces.now _ _ c.index-pieces-i.result _ c.loop-i.invariant.1 c.loop-i-test.true c.index-pieces-i.is
          c.serve-served.ensures),
    )
