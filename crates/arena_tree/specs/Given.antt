-- A tree that a call is given.
use Rattle.std.specs.Prelude.{◌∷◌}
use Rattle.arena_chunks.specs.Memory.{Memory}
use Rattle.arena_chunks.specs.Frame.{ArePairwiseApart, AreAllApart}
use Rattle.arena_vec.specs.Vecs.{IsVecIn, vec_list}
use Rattle.tree_rules.specs.Trees.{Stmts, AreStmts}
use Rattle.arena_tree.specs.TreesAt.{node_item, AreLean}
use Rattle.arena_tree.specs.StmtsAt.{StmtsAt}
use Rattle.arena_tree.specs.Lists.{stmts_lists, stmts_texts}
use Rattle.arena_tree.specs.declared.tree.Tree.{Tree}

-- the tree means these statements
abbrev pub Means : Memory → Tree → Stmts → Type 0
Means m t ss = StmtsAt ss m (vec_list node_item m t.stmts)

-- The tree's handles are well formed and may be read at every depth, and it means a list of plain statements. Its lists
-- of nodes share no byte with each other and none with a text; texts may share bytes.
pub record IsTreeIn (m : Memory) (t : Tree) : Type 0 where
  pub trees : Stmts
  pub plain : AreStmts trees
  pub held : IsVecIn node_item m t.stmts
  pub means : Means m t trees
  pub lists : ArePairwiseApart (t.stmts.raw.block ∷ stmts_lists trees m (vec_list node_item m t.stmts))
  pub texts : AreAllApart (stmts_texts trees m (vec_list node_item m t.stmts)) (t.stmts.raw.block ∷ stmts_lists trees m (vec_list
      node_item m t.stmts))

-- No node of the tree holds what its kind doesn't use, at any depth: a number that is not 0, a text, or a list. A tree
-- that is made of raw parts may; no call requires this.
abbrev pub IsLeanTree : Memory → Tree → Type 0
IsLeanTree m t = AreLean m (vec_list node_item m t.stmts)
