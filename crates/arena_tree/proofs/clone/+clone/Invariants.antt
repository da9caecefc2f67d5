use Rattle.std.proofs.Common.{◌≡◌, ◌+◌, ◌-◌, ◌*◌, ◌≤◌, None, List, ◌∷◌, take, drop, length}
use Rattle.arena_vec.specs.Vecs.{vec_list}
use Rattle.arena_tree.specs.TreesAt.{node_item}
use Rattle.arena_tree.specs.Asking.{Ran, list_ask}
use Rattle.arena_tree.specs.Spending.{AnyBlock, Spends}
use Rattle.arena_tree.specs.Cloning.{row_bytes, kids_asks}
use Rattle.arena_tree.specs.Subtrees.{Subtree, RowAt, IsRowBuilt}
use Rattle.arena_tree.proofs.CloneCostLemmas.{row_below}
use Rattle.arena_tree.proofs.clone.+clone.Given as goal

abbrev pub decreases-clone_node : goal.decreases-clone_node
decreases-clone_node g l = 2 * l.room + 1

abbrev pub decreases-clone_row : goal.decreases-clone_row
decreases-clone_row g l = 2 * l.room

abbrev pub invariant-clone_row-loop-i : goal.invariant-clone_row-loop-i
invariant-clone_row-loop-i g l = record {
  within : l.i ≤ l.nodes.raw.len;
  len : l.list.raw.len ≡ l.i;
  cap : l.list.raw.cap ≡ l.nodes.raw.len;
  built : (ts : List Subtree) → RowAt ts l.from.memory (vec_list node_item l.from.memory l.nodes)
      → IsRowBuilt (take l.i ts) l.fn.to.memory l.to.memory l.list;
  spends : (ts : List Subtree) → RowAt ts l.from.memory (vec_list node_item l.from.memory l.nodes)
      → Spends AnyBlock (row_bytes ts) 0 (row_below (drop l.i ts)) l.fn.to l.to None;
  asks : (ts : List Subtree) → RowAt ts l.from.memory (vec_list node_item l.from.memory l.nodes)
      → Ran (λ n. list_ask (length ts) ∷ kids_asks (take l.i ts)) l.fn.to l.to;
}

abbrev pub decreases-clone_row-loop-i : goal.decreases-clone_row-loop-i
decreases-clone_row-loop-i g l = l.nodes.raw.len - l.i
