use Rattle.std.proofs.Common.{◌≤◌, drop}
use Rattle.arena_vec.specs.Vecs.{vec_list}
use Rattle.arena_tree.specs.TreesAt.{node_item}
use Rattle.arena_tree.specs.FoldingParts.{numbers_in, IsTail}
use Rattle.arena_tree.proofs.fold.total.Given as goal

abbrev pub invariant-loop-i : goal.invariant-loop-i
invariant-loop-i g l = record {
  within : l.i ≤ l.list.raw.len;
  tail : IsTail l.product (numbers_in (drop l.i (vec_list node_item l.a.memory l.list))) l.total;
}

abbrev pub decreases-loop-i : goal.decreases-loop-i
decreases-loop-i g l = l.i
