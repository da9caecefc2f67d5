-- What calls on a text do.
use Rattle.std.specs.Prelude.{◌≡◌, ℕ, List, [], ◌∷◌, length, Result, IfOk, OnOk, OnErr}
use Rattle.arena_chunks.specs.Memory.{Memory}
use Rattle.arena_chunks.specs.Source.{View}
use Rattle.arena_chunks.specs.Frame.{Frame}
use Rattle.arena_items.specs.Room.{MakesRoom, SamePlaces, capacity_after}
use Rattle.arena_items.specs.declared.room.Growth.{Growth}
use Rattle.arena_items.specs.declared.room.AllocError.{AllocError}
use Rattle.arena_text.specs.Growth.{new_growth}
use Rattle.arena_text.specs.Builders.{IsBuilderIn, builder_bytes, no_block}
use Rattle.arena_text.specs.declared.text.StringBuilder.{StringBuilder}

-- After a call that takes no memory the text is these bytes. No cursor moves, and nothing is asked for or counted.
pub record Becomes (old new : View) (t : StringBuilder) (bytes : List ℕ) (u : StringBuilder) : Type 0 where
  pub held : IsBuilderIn new.memory u
  pub bytes_are : builder_bytes new.memory u ≡ bytes
  pub len : u.len ≡ length bytes
  pub block : u.block ≡ t.block
  pub cap : u.cap ≡ t.cap
  pub places : SamePlaces old new
  pub frame : Frame old.memory new.memory (t.block ∷ []) (u.block ∷ [])

-- After a call that may grow the text it is these bytes, or the call was refused and text and arena are as they were.
-- What it does to the places of the arena, and the capacity, follow from the growth.
pub record Grows (old new : View) (t : StringBuilder) (growth : Growth) (bytes : List ℕ) (u : StringBuilder)
    (result : Result (Unit {0}) AllocError) : Type 0 where
  pub made : MakesRoom 1 1 old new t.block t.cap growth (λ _. u.block) result
  pub held : IsBuilderIn new.memory u
  pub bytes_are : OnOk result (builder_bytes new.memory u ≡ bytes)
  pub len : OnOk result (u.len ≡ length bytes)
  pub cap : OnOk result (u.cap ≡ capacity_after growth t.cap)
  pub err : OnErr result ((u ≡ t) × (new.memory ≡ old.memory))
  pub frame : Frame old.memory new.memory (t.block ∷ []) (u.block ∷ [])

-- A call that makes a text of these bytes, with the capacity `room`. If it is refused, the arena is as it was.
pub record Makes (old new : View) (room : ℕ) (bytes : List ℕ) (result : Result StringBuilder AllocError) : Type 0 where
  pub made : MakesRoom 1 1 old new no_block 0 (new_growth room) (λ t. t.block) result
  pub held : IfOk result (IsBuilderIn new.memory)
  pub bytes_are : IfOk result (λ t. builder_bytes new.memory t ≡ bytes)
  pub len : IfOk result (λ t. t.len ≡ length bytes)
  pub cap : IfOk result (λ t. t.cap ≡ room)
  pub frame : IfOk result (λ t. Frame old.memory new.memory [] (t.block ∷ []))
  pub err : OnErr result (new.memory ≡ old.memory)

-- The handle after a growth: the same bytes.
pub record IsGrown (old new : Memory) (t : StringBuilder) (growth : Growth) (u : StringBuilder) : Type 0 where
  pub held : IsBuilderIn new u
  pub len : u.len ≡ t.len
  pub cap : u.cap ≡ capacity_after growth t.cap
  pub bytes_are : builder_bytes new u ≡ builder_bytes old t
  pub frame : Frame old new (t.block ∷ []) (u.block ∷ [])
