-- What calls that place values do.
use Rattle.std.specs.Prelude.{◌≡◌, ℕ, Result, List, IfOk}
use Rattle.arena_chunks.specs.Source.{View}
use Rattle.arena_chunks.specs.BlockCalls.{PlacesBlock}
use Rattle.arena_items.specs.declared.item.Item.{Ghosts}
use Rattle.arena_items.specs.declared.boxes.Box.{Box}
use Rattle.arena_items.specs.declared.slices.BoxSlice.{BoxSlice}
use Rattle.arena_items.specs.declared.placing.ItemErr.{ItemErr}
use Rattle.arena_items.specs.Values.{IsBoxIn, box_value, IsSliceIn, slice_list}
use Rattle.arena_items.specs.Placing.{Answers, AnswersOr, PlacesArray}

-- A call that places a value, as the arena places a block of the type's layout. The box holds a value that meets `is`.
pub record PlacesBox {T : Type 0} (item : Ghosts T) (old new : View) (is : T → Type 0) (result : Result (Box T) ItemErr) : Type 0 where
  pub placed : Answers (λ b. b.block) result (PlacesBlock old new item.SIZE item.ALIGN)
  pub held : IfOk result (IsBoxIn item new.memory)
  pub value : IfOk result (λ b. is (box_value item new.memory b))

-- A call that places n values, as the arena places a block of their array's layout. The slice holds a list that meets
-- `is`. If an iterator gave too few, their number meets `early`.
pub record PlacesSliceOr {T : Type 0} (early : ℕ → Type 0) (item : Ghosts T) (old new : View) (n : ℕ) (is : List T → Type 0)
    (result : Result (BoxSlice T) ItemErr) : Type 0 where
  pub placed : AnswersOr early (λ s. s.block) result (PlacesArray old new item.SIZE item.ALIGN n)
  pub held : IfOk result (IsSliceIn item new.memory)
  pub length : IfOk result (λ s. s.length ≡ n)
  pub list : IfOk result (λ s. is (slice_list item new.memory s))

-- a call that places n values without an iterator
abbrev pub PlacesSlice : {T : Type 0} → Ghosts T → View → View → ℕ → (List T → Type 0) → Result (BoxSlice T) ItemErr → Type 0
PlacesSlice item old new n is result = PlacesSliceOr (λ taken. ⊥) item old new n is result
