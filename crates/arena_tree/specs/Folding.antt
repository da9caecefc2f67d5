-- What folding a tree in place does.
use Rattle.std.specs.Prelude.{◌≡◌, ℕ, List, ◌∷◌}
use Rattle.arena_chunks.specs.Memory.{Memory}
use Rattle.arena_chunks.specs.Source.{View}
use Rattle.arena_chunks.specs.Frame.{Frame, IsApart}
use Rattle.arena_store.specs.declared.block.Block.{Block}
use Rattle.arena_items.specs.Room.{SamePlaces}
use Rattle.arena_vec.specs.Vecs.{vec_list}
use Rattle.tree_rules.specs.Trees.{Stmts, folded_stmts, folds_of_stmts}
use Rattle.arena_tree.specs.TreesAt.{node_item}
use Rattle.arena_tree.specs.StmtsAt.{stmts_blocks}
use Rattle.arena_tree.specs.Lists.{stmts_lists}
use Rattle.arena_tree.specs.Given.{Means}
use Rattle.arena_tree.specs.declared.tree.Tree.{Tree}

-- Addresses that are apart from the first blocks are apart from the second ones: these have only bytes of the first.
abbrev pub IsWithin : List Block → List Block → Type 0
IsWithin before after = (addr n : ℕ) → IsApart addr n before → IsApart addr n after

-- the blocks of a tree of these statements: of its lists of nodes, and all that it names at every depth
abbrev pub lists_of : Stmts → Memory → Tree → List Block
lists_of ss m t = t.stmts.raw.block ∷ stmts_lists ss m (vec_list node_item m t.stmts)

abbrev pub footprint : Stmts → Memory → Tree → List Block
footprint ss m t = t.stmts.raw.block ∷ stmts_blocks ss m (vec_list node_item m t.stmts)

-- The tree of these statements has each of its expressions folded. The handle stays, no memory is taken and no cursor
-- moves, and only bytes of its lists of nodes change. The count is that of the nodes to which one of the two rules was
-- applied.
pub record Folds (ss : Stmts) (old new : View) (before after : Tree) (count : ℕ) : Type 0 where
  pub handle : after ≡ before
  pub means : Means new.memory after (folded_stmts ss)
  pub count_is : count ≡ folds_of_stmts ss
  pub places : SamePlaces old new
  pub frame : Frame old.memory new.memory (lists_of ss old.memory before) (lists_of (folded_stmts ss) new.memory after)
  pub within : IsWithin (footprint ss old.memory before) (footprint (folded_stmts ss) new.memory after)
