use Rattle.std.specs.Prelude.{drop}
use Rattle.std.specs.Fn.{CalledAtMut}
use Rattle.std.specs.List.Retain.{RetainsInTurn}
use Rattle.arena_items.specs.Values.{elements}
use Rattle.arena_vec.specs.Calling.{CallableOnListMut}
use Rattle.arena_vec.proofs.SiftLemmas.{IsSifting}
use Rattle.arena_vec.proofs.retain.sift_mut.Given as goal

abbrev pub invariant-loop-k : goal.invariant-loop-k
invariant-loop-k g l =
    let Leaves = RetainsInTurn (CalledAtMut g.F.FnMut) in
    let all = elements g.T.Item.SIZE g.T.Item.decoded l.len in
    record {
      callable : CallableOnListMut g.F.FnMut (drop l.k (all l.bytes)) l.f;
      sifting : IsSifting Leaves (Leaves l.fn.f (all l.initial.bytes)) l.f l.kept l.k (all l.bytes);
    }
