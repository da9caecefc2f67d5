-- Trees that calls are given, and that calls leave.
use Rattle.std.proofs.Common.{◌+◌, ◌/◌, ◌<◌, arith}
use Rattle.arena_chunks.specs.Memory.{Memory}
use Rattle.arena_rules.specs.State.{used_bytes}
use Rattle.arena_vec.specs.Vecs.{vec_list}
use Rattle.tree_rules.specs.Trees.{Stmts, AreStmts}
use Rattle.arena_tree.specs.declared.tree.Tree.{Tree}
use Rattle.arena_tree.specs.Counts.{stmt_nodes}
use Rattle.arena_tree.specs.TreesAt.{node_item}
use Rattle.arena_tree.specs.StmtsAt.{AreBuilt}
use Rattle.arena_tree.specs.Given.{IsTreeIn}
use Rattle.tree_nodes.proofs.NodesLemmas.{nodes_used}
use Rattle.tree_nodes.proofs.PartsLemmas.{First, parts_pairwise, stmts_parts}

pub given_low : (m : Memory) (t : Tree) (h : IsTreeIn m t) → stmt_nodes h.trees < used_bytes m.state / 88 + 1
given_low m t h = omega (arith, nodes_used h.trees m t.stmts h.held h.means h.lists)

-- what was built is such a tree
pub built_given : (ss : Stmts) (old new : Memory) (t : Tree) → AreStmts ss → AreBuilt ss old new t.stmts → IsTreeIn new t
built_given ss old new t plain b =
    let parts = First t.stmts.raw.block _ _ _ (stmts_parts ss new (vec_list node_item new t.stmts)) in
    let each = parts_pairwise _ _ _ parts b.apart in
    record { trees = ss; plain = plain; held = b.held; means = b.stand; lists = each.0; texts = each.1 }
