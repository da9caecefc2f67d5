use Rattle.std.proofs.Common.{◌≡◌, List, [], ◌∷◌, ◌++◌, take, drop}
use Rattle.std.specs.Fn.{CalledAtMut}
use Rattle.std.specs.List.Retain.{RetainsInTurn}
use Rattle.arena_chunks.specs.Frame.{Frame}
use Rattle.arena_chunks.specs.Source.{View}
use Rattle.arena_items.specs.Room.{SamePlaces}
use Rattle.arena_items.specs.Values.{elements, bytes_of}
use Rattle.arena_vec.specs.Calling.{CallableOnListMut}
use Rattle.arena_vec.specs.Filtering.{Stays}
use Rattle.arena_vec.proofs.SiftLemmas.{IsSifting}
use Rattle.arena_vec.proofs.drain_filter.drop_rest.Given as goal

abbrev pub invariant-loop-k : goal.invariant-loop-k
invariant-loop-k g l =
    let Leaves = RetainsInTurn (Stays (CalledAtMut g.F.FnMut)) in
    let values = λ (a : View). elements g.T.Item.SIZE g.T.Item.decoded l.len (bytes_of a.memory l.block) in
    record {
      callable : CallableOnListMut g.F.FnMut (drop l.k (values l.a)) l.pred;
      sifting : IsSifting Leaves (λ all. (rest : List g.row.T.Denot) × Leaves l.fn.pred (drop l.front (values l.initial.a)) rest
          × (all ≡ take l.kept (values l.initial.a) ++ rest)) l.pred l.stay l.k (values l.a);
      places : SamePlaces l.initial.a l.a;
      frame : Frame l.initial.a.memory l.a.memory (l.block ∷ []) (l.block ∷ []);
    }
