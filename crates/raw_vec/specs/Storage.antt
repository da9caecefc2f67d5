-- What calls on storage do.
use Rattle.std.specs.Prelude.{◌≡◌, ℕ, ◌*◌, ◌<◌, ◌≤◌, List, [], ◌∷◌, length, Result, IfOk, OnOk, OnErr}
use Rattle.arena_chunks.specs.Memory.{Memory}
use Rattle.arena_chunks.specs.Source.{View}
use Rattle.arena_chunks.specs.Answers.Answer.{Placed}
use Rattle.arena_chunks.specs.Frame.{Frame}
use Rattle.arena_chunks.specs.BlockCalls.{GivesBack, ShrinksBlock}
use Rattle.arena_items.specs.declared.item.Item.{Ghosts}
use Rattle.arena_items.specs.Room.{capacity_after, MakesRoom}
use Rattle.raw_vec.specs.Growth.{empty_capacity, new_growth}
use Rattle.raw_vec.specs.Held.{IsRawIn, raw_values, raw_list, empty_block}
use Rattle.arena_items.specs.declared.room.Growth.{Growth}
use Rattle.arena_items.specs.declared.room.AllocError.{AllocError}
use Rattle.raw_vec.specs.declared.raw.RawVec.{RawVec}

-- The handle after a growth: the length is the same, and so are all values that the old capacity had room for.
pub record IsGrown {T : Type 0} (item : Ghosts T) (old new : Memory) (r : RawVec T) (growth : Growth) (s : RawVec T) : Type 0 where
  pub held : IsRawIn item new s
  pub len : s.len ≡ r.len
  pub cap : s.cap ≡ capacity_after growth r.cap
  pub values : (n : ℕ) → n ≤ r.cap → raw_values item new s n ≡ raw_values item old r n
  pub frame : Frame old new (r.block ∷ []) (s.block ∷ [])

-- A call that makes room, by this growth. If it is refused, storage and arena are as they were.
pub record Reserves {X T : Type 0} (item : Ghosts T) (old new : View) (r : RawVec T) (growth : Growth) (s : RawVec T)
    (result : Result X AllocError) : Type 0 where
  pub made : MakesRoom item.SIZE item.ALIGN old new r.block r.cap growth (λ _. s.block) result
  pub grown : OnOk result (IsGrown item old.memory new.memory r growth s)
  pub held : IsRawIn item new.memory s
  pub err : OnErr result ((s ≡ r) × (new.memory ≡ old.memory))
  pub frame : Frame old.memory new.memory (r.block ∷ []) (s.block ∷ [])

-- A call that makes storage with room for `room` values, which holds this list. If it is refused, the arena is as it
-- was.
pub record Makes {X T : Type 0} (item : Ghosts T) (storage : X → RawVec T) (old new : View) (room : ℕ) (list : List T)
    (result : Result X AllocError) : Type 0 where
  pub made : MakesRoom item.SIZE item.ALIGN old new (empty_block item.ALIGN) (empty_capacity item.SIZE)
      (new_growth item.SIZE room) (λ x. (storage x).block) result
  pub held : IfOk result (λ x. IsRawIn item new.memory (storage x))
  pub list_is : IfOk result (λ x. raw_list item new.memory (storage x) ≡ list)
  pub len : IfOk result (λ x. (storage x).len ≡ length list)
  pub cap : IfOk result (λ x. (storage x).cap ≡ capacity_after (new_growth item.SIZE room)
      (empty_capacity item.SIZE))
  pub enough : IfOk result (λ x. room ≤ (storage x).cap)
  pub frame : IfOk result (λ x. Frame old.memory new.memory [] ((storage x).block ∷ []))
  pub err : OnErr result (new.memory ≡ old.memory)

-- The storage after its capacity became `amount`, with no block if that is 0. For values of no bytes nothing changes.
pub record ShrinksTo {T : Type 0} (item : Ghosts T) (old new : View) (r : RawVec T) (amount : ℕ) (s : RawVec T) : Type 0 where
  pub no_bytes : item.SIZE ≡ 0 → (s ≡ r) × (new ≡ old)
  pub stays : amount ≡ r.cap → (s.block ≡ r.block) × (new ≡ old)
  pub given : 0 < item.SIZE → amount ≡ 0 → 0 < r.cap → GivesBack old.memory new.memory r.block
      × (new.source ≡ old.source)
  pub gone : 0 < item.SIZE → amount ≡ 0 → 0 < r.cap → s.block ≡ empty_block item.ALIGN
  pub shrunk : 0 < item.SIZE → 0 < amount → amount < r.cap
      → ShrinksBlock old new r.block (amount * item.SIZE) item.ALIGN (Placed s.block)
  pub cap : 0 < item.SIZE → s.cap ≡ amount
  pub none : 0 < item.SIZE → amount ≡ 0 → s.len ≡ 0
  pub some : 0 < amount → s.len ≡ r.len
  pub held : IsRawIn item new.memory s
  pub values : (n : ℕ) → n ≤ amount → raw_values item new.memory s n ≡ raw_values item old.memory r n
  pub frame : Frame old.memory new.memory (r.block ∷ []) (s.block ∷ [])
