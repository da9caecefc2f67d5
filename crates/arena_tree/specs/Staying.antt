-- What calls on other blocks leave of a tree.
use Rattle.std.specs.Prelude.{◌≡◌, List}
use Rattle.arena_chunks.specs.Memory.{Memory}
use Rattle.arena_chunks.specs.Frame.{AreAllApart}
use Rattle.arena_store.specs.declared.block.Block.{Block}
use Rattle.tree_rules.specs.Trees.{Stmts}
use Rattle.arena_tree.specs.Given.{IsTreeIn, Means}
use Rattle.arena_tree.specs.Folding.{lists_of, footprint}
use Rattle.arena_tree.specs.declared.tree.Tree.{Tree}

-- After a call on other blocks, the tree is held, means the same statements, names the same blocks, and these are apart
-- from those that the call then has.
pub record StaysTree (trees : Stmts) (old new : Memory) (after : List Block) (t : Tree) : Type 0 where
  pub held : IsTreeIn new t
  pub means : Means new t trees
  pub blocks : footprint trees new t ≡ footprint trees old t
  pub lists : lists_of trees new t ≡ lists_of trees old t
  pub apart : AreAllApart (footprint trees new t) after
