use Rattle.std.proofs.Common.{◌<◌, ◌∙◌, arith, length, refl}
use Rattle.std.proofs.lemmas.List.{length-set}
use Rattle.arena_workers.specs.Working.{IsServed}
use Rattle.arena_workers.specs.Order.{IsOf}
use Rattle.arena_workers.proofs.OrderLemmas.{places, first_and_rest}
use Rattle.arena_workers.proofs.lent.Crew.place.Goals as goal

pub loop-i-init : goal.loop-i-init
loop-i-init g c =
    let same = c.into_iter-i-iterator.ensures.into_iter_gives.0 in
    (refl, rw same c.requires.inside, λ pieces are shift. (are, rw same shift))

pub loop-i-preserved : goal.loop-i-preserved
loop-i-preserved g c =
    let served = IsServed g.K.Chunks.ChunkSource.source g.L.PoolName.kind g.W.Work.terms in (
      rw c.put.ensures (length-set _ _ _ ∙ c.loop-i.invariant.0),
      (first_and_rest (λ numbered. numbered.0 < length c.args.all.now.items) _ _ (c.in-Some.i, c.in-Some.served)
          c.in-Some.ensures.steps.0 c.loop-i.invariant.1).1,
      λ pieces are shift. let was = c.loop-i.invariant.2 pieces are shift in
          let h = first_and_rest (IsOf served pieces) _ _ (c.in-Some.i, c.in-Some.served) c.in-Some.ensures.steps.0 was.1.each in
          (rw c.put.ensures (places served pieces _ _ _ was.0 h.0), record { each = h.1 }),
    )

pub put-requires : goal.put-requires
put-requires g c =
    let h = first_and_rest (λ numbered. numbered.0 < length c.args.all.now.items) _ _ (c.in-Some.i, c.in-Some.served)
    c.in-Some.ensures.steps.0 c.loop-i.invariant.1 in
    omega (arith, h.0, c.loop-i.invariant.0)

pub returns : goal.returns
returns g c = λ pieces are shift. (c.loop-i.invariant.2 pieces are shift).0
