-- What calls that convert values into an arena do.
use Rattle.std.specs.Prelude.{◌≡◌, ℕ, Option, Some, None, Result, Ok, Err, IfOk, List, length}
use Rattle.arena_chunks.specs.Source.{View}
use Rattle.arena_chunks.specs.BlockCalls.{PlacesBlock}
use Rattle.arena_chunks.specs.declared.allocator.text.Str.{Str}
use Rattle.arena_items.specs.declared.item.Item.{Ghosts}
use Rattle.arena_items.specs.declared.boxes.Box.{Box}
use Rattle.arena_items.specs.declared.room.AllocError.{AllocError}
use Rattle.arena_items.specs.Room.{RoomAnswer}
use Rattle.arena_items.specs.Values.{IsTextIn, text_bytes}
pub use Rattle.arena_kinds.specs.Dummies.{Boxes}

-- the same result for a function of the value
abbrev pub answer_of : {A B : Type 0} → (A → B) → Result A AllocError → Result B AllocError
answer_of f (Ok x) = Ok (f x)
answer_of f (Err e) = Err e

-- A value is placed, if there is one. For `None` nothing is done.
abbrev pub MayBox : {T : Type 0} → Ghosts T → View → View → Option T → Result (Option (Box T)) AllocError → Type 0
MayBox item old new None result = (result ≡ Ok None) × (new ≡ old)
MayBox {T} item old new (Some v) result =
    (boxed : Result (Box T) AllocError) × Boxes item old new v boxed × (result ≡ answer_of Some boxed)

-- A text is placed as the arena places a block of its length.
pub record PlacesText (old new : View) (bytes : List ℕ) (result : Result Str AllocError) : Type 0 where
  pub placed : RoomAnswer (λ s. s.block) result (PlacesBlock old new (length bytes) 1)
  pub held : IfOk result (IsTextIn new.memory)
  pub text : IfOk result (λ s. text_bytes new.memory s ≡ bytes)
