-- Two calls that place values, one after the other.
use Rattle.std.specs.Prelude.{◌⊎◌, Result, Ok, Err}
use Rattle.arena_chunks.specs.Source.{View}
use Rattle.arena_items.specs.declared.item.Item.{Ghosts}
use Rattle.arena_items.specs.declared.boxes.Box.{Box}
use Rattle.arena_items.specs.declared.placing.ItemErr.{ItemErr}
use Rattle.arena_items.specs.Typed.{PlacesBox}

-- A value was placed, and `next` holds of the arena after that and of the box.
pub record AfterPlacing {T : Type 0} (item : Ghosts T) (old : View) (is : T → Type 0) (next : View → Box T → Type 0) : Type 0 where
  pub between : View
  pub box : Box T
  pub placed : PlacesBox item old between is (Ok box)
  pub follows : next between box

-- A value is placed, and a second call follows, which `next` describes in full. If the first call fails, its error is
-- the result.
abbrev pub PlacesThen : {T X : Type 0} → Ghosts T → View → View → (T → Type 0) → (View → Box T → Type 0) → Result X ItemErr → Type 0
PlacesThen item old new is next (Ok x) = AfterPlacing item old is next
PlacesThen item old new is next (Err e) = PlacesBox item old new is (Err e) ⊎ AfterPlacing item old is next

-- the box in a result
abbrev pub box_in : {T X : Type 0} → (X → Box T) → Result X ItemErr → Result (Box T) ItemErr
box_in box (Ok x) = Ok (box x)
box_in box (Err e) = Err e
