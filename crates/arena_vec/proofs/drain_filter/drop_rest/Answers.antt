use Rattle.std.proofs.Common.{[], true, false, arith, refl, sym, append-nil}
use Rattle.std.specs.Fn.{CalledAtMut}
use Rattle.std_alloc.proofs.RetainMut.{Called-Mut}
use Rattle.arena_chunks.proofs.Layers.{frame_then, frame_reflexive}
use Rattle.arena_items.specs.Values.{bytes_of}
use Rattle.arena_items.proofs.Layers.{drop_item, elements-cut, same_then, wrote_same}
use Rattle.arena_vec.specs.Filtering.{Stays}
use Rattle.arena_vec.proofs.SiftLemmas.{sift_drops, sift_keeps, sift_ends, turn_sifts, values_drop, retained}
use Rattle.arena_vec.proofs.TurnLemmas.{turn_now, turn_on}
use Rattle.arena_vec.proofs.drain_filter.drop_rest.Goals as goal
use Rattle.arena_vec.proofs.drain_filter.drop_rest.Goals.{then-not-pred, else-not-pred}

pub loop-k-init : goal.loop-k-init
loop-k-init g c = record {
  callable = rw (← values_drop g.T.Item.SIZE g.T.Item.decoded c.args.len (bytes_of c.args.a.now.memory c.args.block) c.args.front
      c.requires.within) c.requires.callable;
  sifting = record { onward = λ zs left. (zs, left, refl); order = c.requires.order };
  places = record { state = refl; statistics = refl; source = refl };
  frame = frame_reflexive _ _;
}

pub pred-requires : goal.pred-requires
pred-requires g c = turn_now (drop_item _ c.loop-k.k _ (c.item_at-item.ensures c.args.len (omega arith))) c.loop-k.invariant.callable _ refl

pub loop-k-preserved : goal.loop-k-preserved
loop-k-preserved g c =
    let R = Stays (CalledAtMut g.F.FnMut) in
    let inv = c.loop-k.invariant in
    let got = c.item_at-item.ensures c.args.len (omega arith) in
    let told = Called-Mut g.F.FnMut c.pred.ensures in
    elim c.if-not-pred.branch [
      | then-not-pred w ↦
          let put = w.put_item.ensures in
          let set = put.set c.args.len (omega (arith, inv.sifting.order)) c.requires.room in
          rw (w.a-is, w.stay-is) (record {
            callable = rw set (turn_sifts _ _ inv.callable got inv.sifting.order (_, _, told));
            sifting = rw set (sift_keeps inv.sifting got _ (retained R true (rw w.if-not-pred.true at told)));
            places = same_then _ _ _ inv.places (wrote_same _ _ _ _ _ put.writes put.source);
            frame = frame_then _ _ _ _ _ _ inv.frame put.writes.frame;
          })
      | else-not-pred w ↦
          rw (w.a-is, w.stay-is) (record {
            callable = turn_on (drop_item _ c.loop-k.k _ got) inv.callable _ (_, _, told);
            sifting = sift_drops inv.sifting got (retained R false (rw w.if-not-pred.false at told));
            places = inv.places;
            frame = inv.frame;
          })
    ]

pub returns-clause-list : goal.returns-clause-list
returns-clause-list g c =
    let item = g.T.Item in
    let bytes = bytes_of c.args.a.now.memory c.args.block in
    rw (
      values_drop item.SIZE item.decoded c.args.len bytes c.args.front c.requires.within,
      elements-cut item.SIZE item.decoded c.args.kept c.args.len bytes (omega (arith, c.requires.order, c.requires.within)),
    )
    (sift_ends item.SIZE item.decoded c.args.len _ [] c.loop-k.invariant.sifting (omega arith) refl (sym (append-nil _)))
