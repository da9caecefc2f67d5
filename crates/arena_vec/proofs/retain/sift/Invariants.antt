use Rattle.std.specs.Prelude.{drop}
use Rattle.std.specs.Fn.{CalledAt}
use Rattle.std.specs.List.Retain.{IsFiltered}
use Rattle.arena_items.specs.Values.{elements}
use Rattle.arena_vec.specs.Calling.{CallableOnList}
use Rattle.arena_vec.proofs.SiftLemmas.{IsSifting}
use Rattle.arena_vec.proofs.retain.sift.Given as goal

abbrev pub invariant-loop-k : goal.invariant-loop-k
invariant-loop-k g l =
    let Leaves = IsFiltered (CalledAt g.F.FnMut) in
    let all = elements g.T.Item.SIZE g.T.Item.decoded l.len in
    record {
      callable : CallableOnList g.F.FnMut (drop l.k (all l.bytes)) l.f;
      sifting : IsSifting Leaves (Leaves l.fn.f (all l.initial.bytes)) l.f l.kept l.k (all l.bytes);
    }
