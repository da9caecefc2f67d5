-- What calls that make new values do: copies, and dummies.
use Rattle.std.specs.Prelude.{◌≡◌, List, [], Result, IfOk, IsPermutation}
use Rattle.arena_chunks.specs.Memory.{Memory}
use Rattle.arena_chunks.specs.Source.{View}
use Rattle.arena_chunks.specs.Frame.{AreAllApart}
use Rattle.arena_store.specs.declared.block.Block.{Block}
use Rattle.arena_items.specs.declared.room.AllocError.{AllocError}
use Rattle.arena_kinds.specs.Asks.{Ask, PlacesAll, refusal}
use Rattle.arena_kinds.specs.Kinds.{Kind, AreAlike}
use Rattle.arena_kinds.specs.declared.ids.CloneInSemanticIds.{CloneInSemanticIds}

-- A value with this meaning that names exactly these blocks, at every depth and in any order, and is like a new one at
-- each.
pub record IsMade {T : Type 0} (kind : Kind T) (meaning : kind.Whole) (new : Memory) (blocks : List Block) (w : T) : Type 0 where
  pub held : kind.is_held new w
  pub means : kind.whole new w ≡ meaning
  pub trim : kind.is_trim new w
  pub deep : IsPermutation (kind.deep new w) blocks

-- A call that makes a value with this meaning asks the arena for exactly this. The value names the blocks that were
-- placed. If a block is refused so is the call, and no value names the blocks that were placed before.
pub record MakesNew {T : Type 0} (kind : Kind T) (meaning : kind.Whole) (asks : List Ask) (old new : View)
    (result : Result T AllocError) : Type 0 where
  pub blocks : List Block
  pub placed : PlacesAll asks old new blocks (refusal result)
  pub made : IfOk result (IsMade kind meaning new.memory blocks)

-- A call that copies a value of this memory makes a new one, which is alike by the rule for ids.
abbrev pub Copies : {T : Type 0} → Kind T → CloneInSemanticIds → Memory → View → View → T → Result T AllocError → Type 0
Copies kind ids source old new v result = MakesNew kind (kind.by_ids ids (kind.whole source v)) (kind.asks source v) old new result

-- The bytes of a value, copied elsewhere, are a copy of it: it names no block, and a copy means the same.
pub record IsFlat {T : Type 0} (kind : Kind T) (ids : CloneInSemanticIds) : Type 0 where
  pub held : (m : Memory) (v : T) → kind.is_held m v
  pub trim : (m : Memory) (v : T) → kind.is_trim m v
  pub deep : (m : Memory) (v : T) → kind.deep m v ≡ []
  pub asks : (m : Memory) (v : T) → kind.asks m v ≡ []
  pub alike : (a c : Memory) (v : T) → AreAlike kind ids a v c v

-- After a call a value is what it was: it is held at every depth, names the same blocks, means the same, and its blocks
-- are apart from those that the call has then.
pub record StaysWhole {T : Type 0} (kind : Kind T) (old new : Memory) (after : List Block) (v : T) : Type 0 where
  pub held : kind.is_held new v
  pub deep : kind.deep new v ≡ kind.deep old v
  pub whole : kind.whole new v ≡ kind.whole old v
  pub apart : AreAllApart (kind.deep new v) after
