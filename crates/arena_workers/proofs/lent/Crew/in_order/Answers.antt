use Rattle.std.proofs.Common.{All, arith, inr, sym, subst}
use Rattle.std.specs.List.{enumerate_from}
use Rattle.std.proofs.lemmas.List.FromFn.{length-enumerate_from}
use Rattle.std.proofs.lemmas.List.Elements.{All-push}
use Rattle.arena_workers.specs.Working.{IsServed, IsUnserved}
use Rattle.arena_workers.specs.Order.{IsShift}
use Rattle.arena_workers.proofs.OrderLemmas.{all_zip, first_and_rest, inside_all}
use Rattle.arena_workers.proofs.lent.Crew.in_order.Goals as goal

pub loop-piece-preserved : goal.loop-piece-preserved
loop-piece-preserved g c =
    let i = c.loop-piece.invariant in
    let p = c.push_reserved.ensures in (
      omega (arith, p.len, i.0),
      omega (arith, p.capacity, i.1),
      rw p.items (All-push (IsUnserved g.W.Work.terms) _ _ i.2 c.unserved.ensures),
    )

pub loop-shift-init : goal.loop-shift-init
loop-shift-init g c =
    let served = IsServed g.K.Chunks.ChunkSource.source g.L.PoolName.kind g.W.Work.terms in
    let pieces = enumerate_from 0 c.args.pieces.now in
    let i = c.loop-piece.invariant in (
      all_zip served (IsUnserved g.W.Work.terms) (λ p s none. inr none) pieces c.loop-piece.all.items
          (omega (arith, i.0, c.loop-piece.auto._piece-index-end, c.loop-piece-test.false, length-enumerate_from 0 c.args.pieces.now)) i.2,
      subst (All (λ shift. IsShift served pieces shift.items)) (sym c.into_iter-shift-iterator.ensures.into_iter_gives.0) c.requires,
    )

pub place-requires-clause-inside : goal.place-requires-clause-inside
place-requires-clause-inside g c κs within =
    let served = IsServed g.K.Chunks.ChunkSource.source g.L.PoolName.kind g.W.Work.terms in
    let pieces = enumerate_from 0 c.args.pieces.now in
    inside_all served pieces _ _ c.loop-shift.invariant.0 (first_and_rest (λ shift. IsShift served pieces shift.items) _ _
    c.in-Some.shift c.in-Some.ensures.steps.0 c.loop-shift.invariant.1).0

pub loop-shift-preserved : goal.loop-shift-preserved
loop-shift-preserved g c =
    let served = IsServed g.K.Chunks.ChunkSource.source g.L.PoolName.kind g.W.Work.terms in
    let pieces = enumerate_from 0 c.args.pieces.now in
    let h = first_and_rest (λ shift. IsShift served pieces shift.items) _ _ c.in-Some.shift c.in-Some.ensures.steps.0
    c.loop-shift.invariant.1 in
    (c.place.ensures pieces c.loop-shift.invariant.0 h.0, h.1)
