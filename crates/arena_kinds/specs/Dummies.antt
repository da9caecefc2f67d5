-- What calls that place a value in a box, and that take one out of its place, do.
use Rattle.std.specs.Prelude.{◌≡◌, List, [], ◌∷◌, ◌++◌, Result, IfOk, OnOk, OnErr}
use Rattle.arena_chunks.specs.Source.{View}
use Rattle.arena_chunks.specs.BlockCalls.{PlacesBlock}
use Rattle.arena_store.specs.declared.block.Block.{Block}
use Rattle.arena_items.specs.declared.item.Item.{Ghosts}
use Rattle.arena_items.specs.declared.boxes.Box.{Box}
use Rattle.arena_items.specs.declared.room.AllocError.{AllocError}
use Rattle.arena_items.specs.Room.{RoomAnswer}
use Rattle.arena_items.specs.Values.{IsBoxIn, box_value}
use Rattle.arena_kinds.specs.Asks.{Ask, PlacesAll, refusal}
use Rattle.arena_kinds.specs.Asks.Ask.{Room}
use Rattle.arena_kinds.specs.Kinds.{Kind}
use Rattle.arena_kinds.specs.Copies.{IsMade}

-- A value is placed as the arena places a block of its type's layout, and the box holds it.
pub record Boxes {T : Type 0} (item : Ghosts T) (old new : View) (v : T) (result : Result (Box T) AllocError) : Type 0 where
  pub placed : RoomAnswer (λ b. b.block) result (PlacesBlock old new item.SIZE item.ALIGN)
  pub held : IfOk result (IsBoxIn item new.memory)
  pub value : IfOk result (λ b. box_value item new.memory b ≡ v)

-- A value is taken out of its place, and replaced by a new one with this meaning. If the call is refused the place is
-- as it was.
pub record TakesOut {T : Type 0} (kind : Kind T) (meaning : kind.Whole) (asks : List Ask) (old new : View) (before after : T)
    (result : Result T AllocError) : Type 0 where
  pub blocks : List Block
  pub placed : PlacesAll asks old new blocks (refusal result)
  pub taken : IfOk result (λ v. v ≡ before)
  pub left : OnOk result (IsMade kind meaning new.memory blocks after)
  pub err : OnErr result (after ≡ before)

-- A value is taken out and replaced, and placed in a new box, whose block is asked for last.
pub record TakesBox {T : Type 0} (item : Ghosts T) (kind : Kind T) (meaning : kind.Whole) (asks : List Ask) (old new : View)
    (before after : T) (result : Result (Box T) AllocError) : Type 0 where
  pub blocks : List Block
  pub placed : PlacesAll (asks ++ Room item.SIZE item.ALIGN ∷ []) old new blocks (refusal result)
  pub held : IfOk result (IsBoxIn item new.memory)
  pub taken : IfOk result (λ b. box_value item new.memory b ≡ before)
  pub left : IfOk result (λ b. (rest : List Block) × (blocks ≡ rest ++ b.block ∷ []) × IsMade kind meaning new.memory rest after)
  pub err : OnErr result (after ≡ before)
