-- Trees in an arena.
use Rattle.std.specs.Prelude.{◌≡◌, ℕ, ◌<◌, ◌≤◌, List, [], ◌∷◌, ◌++◌, Option, Some, slice_get, IfSome, IsSomeAnd}
use Rattle.std.specs.List.{All}
use Rattle.arena_chunks.specs.Frame.{AreAllApart}
use Rattle.arena_chunks.specs.Memory.{Memory}
use Rattle.arena_chunks.specs.Source.{Source, View}
use Rattle.arena_store.specs.declared.block.Block.{Block}
use Rattle.arena_items.specs.Beside.{IsNew, Moves}
use Rattle.arena_items.specs.declared.item.Item.{Ghosts}
use Rattle.arena_items.specs.declared.values.InArena.{Ghosts as Values}
use Rattle.arena_vec.specs.Vecs.{IsVecIn, vec_list}
use Rattle.arena_vec.specs.declared.vec.Vec.{Vec}
use Rattle.arena_symbols.specs.Names.{IsInternerIn, names_footprint}
use Rattle.arena_ast.specs.declared.ast.Ast.{Ast}

-- Each node of the list may be at its index.
abbrev pub AreOrdered : {T : Type 0} → (ℕ → T → Type 0) → List T → Type 0
AreOrdered {T} is_after nodes = (at : ℕ) (n : T) → slice_get nodes at ≡ Some n → is_after at n

-- The handle is that of a list of nodes, each after those that it names.
pub record AreNodesIn {T : Type 0} (item : Ghosts T) (is_after : ℕ → T → Type 0) (memory : Memory) (nodes : Vec T) : Type 0 where
  pub held : IsVecIn item memory nodes
  pub ordered : AreOrdered is_after (vec_list item memory nodes)

-- The nodes and the names of a tree are held, and their blocks are apart.
pub record IsAstIn {T : Type 0} (item : Ghosts T) (is_after : ℕ → T → Type 0) (memory : Memory) (tree : Ast T) : Type 0 where
  pub nodes : AreNodesIn item is_after memory tree.nodes
  pub names : IsInternerIn memory tree.names
  pub apart : AreAllApart (names_footprint memory tree.names) (tree.nodes.raw.block ∷ [])

-- all blocks of a tree
abbrev pub ast_blocks : {T : Type 0} → Memory → Ast T → List Block
ast_blocks memory tree = tree.nodes.raw.block ∷ names_footprint memory tree.names

-- If requests are listed afterwards, they were before, and these were added.
abbrev pub ListsMore : Option (List (ℕ × ℕ)) → Option (List (ℕ × ℕ)) → Type 0
ListsMore before after = IfSome after (λ all. IsSomeAnd before (λ some. (added : List (ℕ × ℕ)) × (all ≡ some ++ added)))

-- A source forgot no refusal and no request.
pub record KeepsCount (before after : Source) : Type 0 where
  pub refusals : before.refusals ≤ after.refusals
  pub requests : ListsMore before.asked after.asked

-- After a call the value is held, nothing else in the arena was written, and the arena's source forgot nothing.
pub record Moved {V : Type 0} (kind : Values V) (old new : View) (v w : V) : Type 0 where
  pub moves : Moves kind old.memory new.memory v w
  pub counts : KeepsCount old.source new.source

-- A value that was placed since then: what was in use stays, and is apart from its blocks.
pub record IsBuilt {V : Type 0} (kind : Values V) (old new : View) (v : V) : Type 0 where
  pub fresh : IsNew kind old.memory new.memory v
  pub counts : KeepsCount old.source new.source

-- each number is an index below this one
abbrev pub AreBelow : ℕ → List ℕ → Type 0
AreBelow n indices = All (λ i. i < n) indices
