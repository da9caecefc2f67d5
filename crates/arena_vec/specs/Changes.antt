-- What calls on a vector do.
use Rattle.std.specs.Prelude.{◌≡◌, List, [], ◌∷◌, length, Result, OnOk, OnErr}
use Rattle.arena_chunks.specs.Memory.{Memory}
use Rattle.arena_chunks.specs.Source.{View}
use Rattle.arena_chunks.specs.Frame.{Frame}
use Rattle.arena_items.specs.declared.item.Item.{Ghosts}
use Rattle.arena_items.specs.Room.{capacity_after, MakesRoom, SamePlaces}
use Rattle.arena_vec.specs.Vecs.{IsVecIn, vec_list}
use Rattle.arena_items.specs.declared.room.Growth.{Growth}
use Rattle.arena_items.specs.declared.room.AllocError.{AllocError}
use Rattle.arena_vec.specs.declared.vec.Vec.{Vec}

-- After a call that takes no memory the vector is this list. No cursor moves, and nothing is asked for or counted.
pub record Becomes {T : Type 0} (item : Ghosts T) (old new : View) (v : Vec T) (list : List T) (w : Vec T) : Type 0 where
  pub held : IsVecIn item new.memory w
  pub list_is : vec_list item new.memory w ≡ list
  pub len : w.raw.len ≡ length list
  pub block : w.raw.block ≡ v.raw.block
  pub cap : w.raw.cap ≡ v.raw.cap
  pub places : SamePlaces old new
  pub frame : Frame old.memory new.memory (v.raw.block ∷ []) (w.raw.block ∷ [])

-- After a call that may grow the vector it is this list, or the call was refused and vector and arena are as they were.
-- What it does to the places of the arena, and the capacity, follow from the growth.
pub record Grows {X T : Type 0} (item : Ghosts T) (old new : View) (v : Vec T) (growth : Growth) (list : List T) (w : Vec T)
    (result : Result X AllocError) : Type 0 where
  pub made : MakesRoom item.SIZE item.ALIGN old new v.raw.block v.raw.cap growth (λ _. w.raw.block) result
  pub held : IsVecIn item new.memory w
  pub list_is : OnOk result (vec_list item new.memory w ≡ list)
  pub len : OnOk result (w.raw.len ≡ length list)
  pub cap : OnOk result (w.raw.cap ≡ capacity_after growth v.raw.cap)
  pub err : OnErr result ((w ≡ v) × (new.memory ≡ old.memory))
  pub frame : Frame old.memory new.memory (v.raw.block ∷ []) (w.raw.block ∷ [])

-- A vector is this list now, in the block and with the capacity that it had.
pub record IsNow {T : Type 0} (item : Ghosts T) (now : Memory) (v : Vec T) (list : List T) (w : Vec T) : Type 0 where
  pub held : IsVecIn item now w
  pub list_is : vec_list item now w ≡ list
  pub len : w.raw.len ≡ length list
  pub block : w.raw.block ≡ v.raw.block
  pub cap : w.raw.cap ≡ v.raw.cap
