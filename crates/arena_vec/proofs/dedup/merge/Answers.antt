use Rattle.std.proofs.Common.{[], ◌∷◌, true, false, arith, refl}
use Rattle.std_alloc.proofs.RetainMut.{Called-Mut_two, dedup_empty}
use Rattle.arena_chunks.proofs.Layers.{frame_then, frame_reflexive}
use Rattle.arena_items.proofs.Layers.{length-elements, drop_item, same_then, wrote_same}
use Rattle.arena_vec.proofs.SiftLemmas.{sift_drops, sift_keeps, sift_ends, turn_sifts}
use Rattle.arena_vec.proofs.TurnLemmas.{turn_now, turn_on}
use Rattle.arena_vec.proofs.DedupLemmas.{merged, parted}
use Rattle.arena_vec.proofs.dedup.merge.Goals as goal
use Rattle.arena_vec.proofs.dedup.merge.Goals.{then-not-f, else-not-f}

pub returns-then-len-eq0-clause-list : goal.returns-then-len-eq0-clause-list
returns-then-len-eq0-clause-list g c = rw c.if-len-eq0.true (dedup_empty _ _ _ (length-elements _ _ 0 _))

pub loop-k-init : goal.loop-k-init
loop-k-init g c =
    let first = drop_item _ 0 _ (c.item_at-last.ensures c.args.len (omega arith)) in
    record {
      callable = c.requires.callable _ _ first;
      order = omega arith;
      sifting = record { onward = λ zs left. rw first (record { told = left }); order = omega arith };
      places = record { state = refl; statistics = refl; source = refl };
      frame = frame_reflexive _ _;
    }

pub f-requires : goal.f-requires
f-requires g c =
    turn_now (drop_item _ c.loop-k.k _ (c.item_at-item.ensures c.args.len (omega arith))) c.loop-k.invariant.callable _ _ refl refl

pub loop-k-preserved : goal.loop-k-preserved
loop-k-preserved g c =
    let inv = c.loop-k.invariant in
    let got = c.item_at-item.ensures c.args.len (omega arith) in
    let told = Called-Mut_two g.F.FnMut c.f.ensures in
    elim c.if-not-f.branch [
      | then-not-f w ↦
          let put = w.put_item.ensures in
          let parts = rw w.if-not-f.true at told in
          let set = put.set c.args.len (omega (arith, inv.order)) c.requires.room in
          rw (w.a-is, w.last-is, w.before-is) (record {
            callable = rw set (turn_sifts _ _ inv.callable got inv.sifting.order (false, _, _, parts, refl));
            order = omega (arith, inv.order);
            sifting = rw set (sift_keeps inv.sifting got _ (parted _ parts));
            places = same_then _ _ _ inv.places (wrote_same _ _ _ _ _ put.writes put.source);
            frame = frame_then _ _ _ _ _ _ inv.frame put.writes.frame;
          })
      | else-not-f w ↦
          let merges = rw w.if-not-f.false at told in
          rw (w.a-is, w.last-is, w.before-is) (record {
            callable = turn_on (drop_item _ c.loop-k.k _ got) inv.callable _ (true, _, _, merges, refl);
            order = omega (arith, inv.order);
            sifting = sift_drops inv.sifting got (merged _ merges);
            places = inv.places;
            frame = inv.frame;
          })
    ]

pub returns-clause-list : goal.returns-clause-list
returns-clause-list g c =
    sift_ends _ _ c.args.len _ (c.loop-k.last ∷ []) c.loop-k.invariant.sifting (omega arith) refl c.put_item-2.ensures.push
