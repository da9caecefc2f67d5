-- Storage that grows, and storage that is made: the one call of the arena, the handle then, and its values.
use Rattle.std.proofs.Common.{◌≡◌, ℕ, ◌+◌, ◌*◌, ◌<◌, ◌≤◌, ap, ◌∙◌, List, [], ◌∷◌, Ok, Err, arith, true}
use Rattle.std.proofs.Math.Nat.{mul-le-mul_right}
use Rattle.arena_chunks.specs.Source.{View}
use Rattle.arena_chunks.specs.Answers.Answer.{Placed}
use Rattle.arena_chunks.specs.Frame.{Frame}
use Rattle.arena_store.specs.declared.block.Block.{Block}
use Rattle.arena_chunks.proofs.Layers.{empty_before, frame_reflexive}
use Rattle.arena_items.specs.Room.{capacity_after, TakesRoom, MakesRoom}
use Rattle.arena_items.specs.Values.{bytes_of, elements, IsHeld}
use Rattle.arena_items.specs.declared.item.Item.{Ghosts}
use Rattle.arena_items.specs.declared.room.Growth.{Growth}
use Rattle.arena_items.specs.declared.room.Growth.TheVariants.{Stays, GrowsTo, Overflows}
use Rattle.arena_items.specs.declared.room.AllocError.{AllocError}
use Rattle.arena_items.proofs.Layers.{elements-same, elements-empty, taken_held, taken_frame, taken_front}
use Rattle.raw_vec.specs.Growth.{Suffices, growth_by, empty_capacity}
use Rattle.raw_vec.specs.Held.{empty_block}
use Rattle.raw_vec.specs.Storage.{IsGrown, Makes}
use Rattle.raw_vec.specs.declared.raw.RawVec.{RawVec}

-- ---- A block taken for more values

module _ (old new : View) (size align : ℕ) (b c : Block) (cap more : ℕ) (held : IsHeld (cap * size) align old.memory.state b)
    (takes : TakesRoom old new b cap (more * size) align (Placed c)) where
  -- without room there are no bytes
  no_bytes : cap ≡ 0 → b.size ≡ 0
  no_bytes none = held.of_size ∙ ap (λ (n : ℕ). n * size) none ∙ omega arith

  -- It has the layout of `more` values.
  pub row_held : IsHeld (more * size) align new.memory.state c
  row_held = taken_held old new b c cap (more * size) align takes

  -- All but the storage's block is as it was.
  pub row_frame : Frame old.memory new.memory (b ∷ []) (c ∷ [])
  row_frame = taken_frame old new b c cap (more * size) align takes no_bytes

  -- The values are as they were.
  pub row_values : {T : Type 0} (dec : List ℕ → T) (n : ℕ) → n ≤ cap → cap < more
      → elements size dec n (bytes_of new.memory c) ≡ elements size dec n (bytes_of old.memory b)
  row_values dec n within less =
      let seen : n * size ≤ cap * size = mul-le-mul_right size within in
      let more_bytes : cap * size ≤ more * size = mul-le-mul_right size (let le : cap ≤ more = omega arith in le) in
      elements-same size dec n (bytes_of new.memory c) (bytes_of old.memory b)
      (taken_front old new b c cap (more * size) align takes no_bytes (n * size) (omega (arith, held.of_size))
      (omega (arith, held.of_size)))

-- for a growth
pub ruleset taken = (row_held, row_frame, row_values, frame_reflexive)

-- After a growth that succeeded there is room for what is required.
pub enough : {X : Type 0} (size align : ℕ) (old new : View) (b : Block) (cap required : ℕ) (growth : Growth) (f : X → Block) (x : X)
    → MakesRoom size align old new b cap growth f (Ok x) → Suffices size cap required growth → required ≤ capacity_after growth cap
enough size align old new b cap required Stays f x made suffices = suffices
enough size align old new b cap required (GrowsTo more) f x made suffices = suffices.1
enough size align old new b cap required Overflows f x made suffices = absurd (let no = made.0 in cc)

pub ruleset growths = (enough)

-- ---- Storage that is made

module _ {T : Type 0} (item : Ghosts T) (old new : View) (empty : RawVec T) (room : ℕ)
    (block : empty.block ≡ empty_block item.ALIGN) (none : empty.len ≡ 0) (cap : empty.cap ≡ empty_capacity item.SIZE) where
  -- Room was made for an empty handle.
  pub made_storage : (raw : RawVec T)
      → MakesRoom item.SIZE item.ALIGN old new empty.block empty.cap (growth_by true item.SIZE empty.cap (0 + room)) (λ r. r.block) (Ok raw)
      → IsGrown item old.memory new.memory empty (growth_by true item.SIZE empty.cap (0 + room)) raw
      → 0 + room ≤ raw.cap → Makes {X = RawVec T} item (λ r. r) old new room [] (Ok raw)
  made_storage raw made grown enough =
      let sum : 0 + room ≡ room = omega arith in
      let no_bytes : empty.block.size ≡ 0 = ap (λ b. b.size) block in
      grind (
        arith,
        rw (sum, cap, block) at made,
        elements-empty item.SIZE item.decoded raw.len (bytes_of new.memory raw.block) (grown.len ∙ none),
        rw (sum, cap) at grown.cap,
        (empty_before old.memory new.memory [] [] (raw.block ∷ []) empty.block no_bytes).0 grown.frame,
      )

  -- There was no room.
  pub no_storage : (e : AllocError)
      → MakesRoom {X = RawVec T} item.SIZE item.ALIGN old new empty.block empty.cap (growth_by true item.SIZE empty.cap (0 + room))
      (λ r. r.block) (Err e)
      → new.memory ≡ old.memory → Makes {X = RawVec T} item (λ r. r) old new room [] (Err e)
  no_storage e made same = let sum : 0 + room ≡ room = omega arith in grind (arith, rw (sum, cap, block) at made)

pub ruleset room_laws = (frame_reflexive, mul-le-mul_right, made_storage, no_storage)
