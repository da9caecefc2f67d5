use Rattle.std.proofs.Common.{arith, ◌≡◌, ◌<◌, refl}
use Rattle.arena_items.proofs.Layers.{rows_before}
use Rattle.arena_vec.proofs.VecLemmas.{room_of}
use Rattle.arena_vec.proofs.SpliceLemmas.{filling_none, filling_more, filled_all, filled_some}
use Rattle.arena_vec.proofs.splice.fill.Goals as goal

pub loop-k-init : goal.loop-k-init
loop-k-init g c = record {
  callable = c.requires.can;
  ends = c.requires.ends;
  same = refl;
  filling = filling_none c.args.start c.requires.held;
}

pub returns-in_default-clause-fills : goal.returns-in_default-clause-fills
returns-in_default-clause-fills g c =
    filled_some c.requires.within c.loop-k.invariant.filling c.loop-k-test.true c.in_default.ensures.steps c.without.ensures

pub put_item-requires-clause-range : goal.put_item-requires-clause-range
put_item-requires-clause-range g c =
    let v = c.args.vec.now in
    let held = c.loop-k.invariant.filling.held in
    let below : c.loop-k.k < v.raw.len = omega (arith, c.requires.within) in
    omega (arith, room_of g.T.Item _ v v.raw.len held held.within, rows_before c.loop-k.k v.raw.len g.T.Item.SIZE below)

pub loop-k-preserved : goal.loop-k-preserved
loop-k-preserved g c =
    let inv = c.loop-k.invariant in
    let v = c.args.vec.now in
    let held = inv.filling.held in
    let put = c.put_item.ensures in
    let below : c.loop-k.k < v.raw.len = omega (arith, c.requires.within) in
    record {
      callable = c.in-Some.ensures.goes.keeps;
      ends = (c.in-Some.ensures.goes.on inv.ends).1;
      same = inv.same;
      filling = filling_more inv.filling c.in-Some.ensures.steps below put.writes put.source
          (put.set v.raw.len below (room_of g.T.Item _ v v.raw.len held held.within));
    }

pub returns-clause-fills : goal.returns-clause-fills
returns-clause-fills g c =
    let inv = c.loop-k.invariant in
    let all : c.loop-k.k ≡ c.args.end = omega (arith, c.requires.order) in
    rw inv.same (filled_all c.requires.held (rw all at inv.filling))
