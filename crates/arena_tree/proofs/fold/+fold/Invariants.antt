use Rattle.std.proofs.Common.{◌+◌, ◌*◌, ◌≤◌, List}
use Rattle.arena_items.specs.Room.{SamePlaces}
use Rattle.arena_tree.specs.Subtrees.{Subtree}
use Rattle.arena_tree.specs.FoldingParts.{IsRowWhole}
use Rattle.arena_tree.proofs.FoldRowLemmas.{Left}
use Rattle.arena_tree.proofs.fold.+fold.Given as goal

abbrev pub decreases-fold_node : goal.decreases-fold_node
decreases-fold_node g l = 2 * l.room + 1

abbrev pub decreases-fold_row : goal.decreases-fold_row
decreases-fold_row g l = 2 * l.room

abbrev pub invariant-fold_row-loop-i : goal.invariant-fold_row-loop-i
invariant-fold_row-loop-i g l = record {
  within : l.i ≤ l.list.raw.len;
  row : (trees : List Subtree) → IsRowWhole trees l.fn.a.memory l.list → Left trees l.fn.a.memory l.a.memory l.list l.i l.count;
  places : SamePlaces l.fn.a l.a;
}

abbrev pub decreases-fold_row-loop-i : goal.decreases-fold_row-loop-i
decreases-fold_row-loop-i g l = l.i
