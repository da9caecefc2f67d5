-- Copies of sequences of values, into a block that is there.
use Rattle.std.specs.Prelude.{List, [], ◌∷◌, Result, OnOk, IsTrue}
use Rattle.arena_chunks.specs.Memory.{Memory, is_readable}
use Rattle.arena_chunks.specs.Source.{View}
use Rattle.arena_chunks.specs.Frame.{Frame, ArePairwiseApart}
use Rattle.arena_store.specs.declared.block.Block.{Block}
use Rattle.arena_items.specs.declared.room.AllocError.{AllocError}
use Rattle.arena_clone.specs.Asks.{AsksFor, refusal}
use Rattle.arena_clone.specs.Kinds.{Kind, row_of}
use Rattle.arena_clone.specs.Copies.{IsMade}
use Rattle.arena_kinds.specs.declared.ids.CloneInSemanticIds.{CloneInSemanticIds}

-- A call that copies these values into a block, which holds `ys` then, asks the arena for exactly the blocks that the
-- copies name.
pub record CopiesRow {T X : Type 0} (kind : Kind T) (ids : CloneInSemanticIds) (source : Memory) (old new : View) (target : Block)
    (xs ys : List T) (result : Result X AllocError) : Type 0 where
  pub blocks : List Block
  pub asked : AsksFor ((row_of kind).asks source xs) old new blocks (refusal result)
  pub apart : ArePairwiseApart (target ∷ blocks)
  pub frame : Frame old.memory new.memory (target ∷ []) (target ∷ blocks)
  pub readable : IsTrue (is_readable new.memory.state target)
  pub made : OnOk result (IsMade (row_of kind) ((row_of kind).by_ids ids ((row_of kind).whole source xs)) new.memory blocks ys)
