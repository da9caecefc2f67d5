use Rattle.std.proofs.Common.{◌<◌, [], ◌∷◌, drop}
use Rattle.std.specs.Fn.{CalledAtPairMut}
use Rattle.std.specs.List.Retain.{IsDeduped}
use Rattle.std.specs.Array.{list_steps}
use Rattle.std.specs.Iterator.{CallableAtEachTurn}
use Rattle.arena_chunks.specs.Frame.{Frame}
use Rattle.arena_chunks.specs.Source.{View}
use Rattle.arena_items.specs.Room.{SamePlaces}
use Rattle.arena_items.specs.Values.{elements, bytes_of}
use Rattle.arena_vec.specs.Calling.{DedupTurn, TakesAtPairMut}
use Rattle.arena_vec.proofs.SiftLemmas.{IsSifting}
use Rattle.arena_vec.proofs.DedupLemmas.{LeavesOne}
use Rattle.arena_vec.proofs.dedup.merge.Given as goal

abbrev pub invariant-loop-k : goal.invariant-loop-k
invariant-loop-k g l =
    let R = CalledAtPairMut g.F.FnMut in
    let values = λ (a : View). elements g.T.Item.SIZE g.T.Item.decoded l.len (bytes_of a.memory l.block) in
    record {
      callable : CallableAtEachTurn list_steps (DedupTurn R) (λ p y. TakesAtPairMut g.F.FnMut p.0 y p.1) (drop l.k (values l.a))
          (l.f, l.last);
      order : l.before < l.k;
      sifting : IsSifting (LeavesOne R) (IsDeduped R l.fn.f (values l.initial.a)) (l.f, l.last) l.before l.k (values l.a);
      places : SamePlaces l.initial.a l.a;
      frame : Frame l.initial.a.memory l.a.memory (l.block ∷ []) (l.block ∷ []);
    }
