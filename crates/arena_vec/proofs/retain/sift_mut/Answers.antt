use Rattle.std.proofs.Common.{arith, refl, sym, [], append-nil}
use Rattle.std_alloc.proofs.RetainMut.{Called-Mut}
use Rattle.arena_items.proofs.Layers.{drop_item}
use Rattle.arena_vec.proofs.SiftLemmas.{sift_writes, sift_ends, turn_sifts, retained}
use Rattle.arena_vec.proofs.TurnLemmas.{turn_now}
use Rattle.arena_vec.proofs.retain.sift_mut.Goals as goal

pub f-picked-requires : goal.f-picked-requires
f-picked-requires g c = turn_now (drop_item _ c.loop-k.k _ (c.value_in-item.ensures c.args.len (omega arith))) c.loop-k.invariant.callable
    _ refl

pub loop-k-preserved : goal.loop-k-preserved
loop-k-preserved g c =
    let sifting = c.loop-k.invariant.sifting in
    let long = c.loop-k.auto.bytes in
    let got = c.value_in-item.ensures c.args.len (omega arith) in
    let put = c.put_in.ensures c.args.len (omega (arith, sifting.order)) (omega (arith, long, c.requires.room)) in
    let told_at = Called-Mut g.F.FnMut c.f-picked.ensures in
    let told = retained _ c.f-picked.result told_at in
    record {
      callable = rw put (turn_sifts _ _ c.loop-k.invariant.callable got sifting.order (c.f-picked.result, _, told_at));
      sifting = rw put (sift_writes sifting got c.f-picked.result _ told);
    }

pub returns-clause-list : goal.returns-clause-list
returns-clause-list g c =
    sift_ends _ _ c.args.len _ [] c.loop-k.invariant.sifting (omega arith) refl (sym (append-nil _))
