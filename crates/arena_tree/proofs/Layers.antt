-- The lemmas that a layer above cites: a tree has no more nodes than the bytes in use have room for; a node represents
-- at most one tree; what a node of each kind represents; lists of nodes.
pub use Rattle.tree_nodes.proofs.NodesLemmas.{nodes_used}
pub use Rattle.tree_nodes.proofs.OneTreeLemmas.{one_stmts}
pub use Rattle.tree_nodes.proofs.WalkLemmas.{some_node, list_len, seen, line_seen}
pub use Rattle.tree_nodes.proofs.BuildLemmas.{one_row}
