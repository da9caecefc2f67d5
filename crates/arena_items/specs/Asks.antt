-- What calls ask their arena for, block after block, and what it answers.
use Rattle.std.specs.Prelude.{◌≡◌, ℕ, ◌*◌, ◌/◌, ◌==◌, if◌then◌else◌, Option, Some, None, List, [], ◌∷◌, ◌++◌, take, slice_get}
use Rattle.arena_chunks.specs.Source.{View}
use Rattle.arena_chunks.specs.Answers.{Answer}
use Rattle.arena_chunks.specs.Answers.Answer.{Placed, Refused, Exhausted}
use Rattle.arena_chunks.specs.BlockCalls.{PlacesBlock, GrowsBlock}
use Rattle.arena_store.specs.declared.block.Block.{Block}
use Rattle.arena_items.specs.Room.{SamePlaces}
use Rattle.arena_items.specs.declared.room.Growth.{Growth}
use Rattle.arena_items.specs.declared.room.Growth.TheVariants.{Stays, GrowsTo, Overflows}
use Rattle.arena_items.specs.declared.room.AllocError.{AllocError}
use Rattle.arena_items.specs.declared.room.AllocError.TheVariants.{AllocErr, CapacityOverflow, OutOfMemory}

-- No block; a new block of this size and this alignment; or a larger block, of this size and this alignment, in place of
-- one that is there.
pub data Ask (B : Type 0) : Type 0 where
  NoBlock : Ask B
  Fresh : ℕ → ℕ → Ask B
  Larger : B → ℕ → ℕ → Ask B

-- ---- Collections: the first block is a new one, and each later one replaces that before it

abbrev pub first_or_larger : {B : Type 0} → Option B → ℕ → ℕ → Ask B
first_or_larger None size align = Fresh size align
first_or_larger (Some block) size align = Larger block size align

-- room for values of this size, by the growth
abbrev pub room_ask : {B : Type 0} → (value_size value_align : ℕ) → Option B → Growth → Ask B
room_ask size align block Stays = NoBlock
room_ask size align block (GrowsTo more) = first_or_larger block (more * size) align
room_ask size align block Overflows = NoBlock

-- The same where each block is a new one.
abbrev pub table_ask : {B : Type 0} → (slot_size slot_align : ℕ) → Growth → Ask B
table_ask size align growth = room_ask size align None growth

-- the block of a collection, if it has one: one of no bytes is none
abbrev pub solid : Block → Option Block
solid block = if block.size == 0 then None else Some block

-- the capacity of a collection with this block, if it has one: how many values of this size there is room for
abbrev pub capacity_of : ℕ → Option Block → ℕ
capacity_of size None = 0
capacity_of size (Some block) = block.size / size

-- ---- One block

-- the arena's answer to what it is asked for
abbrev pub Answers : Ask Block → View → View → Answer → Type 0
Answers NoBlock old new answer = ⊥
Answers (Fresh size align) old new answer = PlacesBlock old new size align answer
Answers (Larger block size align) old new answer = GrowsBlock old new block size align answer

-- The arena was asked for this and for nothing else. Bytes may have been written before and afterwards.
pub record Asked (ask : Ask Block) (old new : View) (answer : Answer) : Type 0 where
  pub start : View
  pub between : View
  pub written : SamePlaces old start
  pub answers : Answers ask start between answer
  pub places : SamePlaces between new

-- the answer of an arena that refuses, for each error
abbrev pub refusal : AllocError → Answer
refusal (AllocErr k) = Refused k
refusal CapacityOverflow = Exhausted
refusal OutOfMemory = Exhausted

-- A value has this block afterwards: that of before, if none is asked for; otherwise what the arena answered.
abbrev pub TakesBlock : Ask Block → Option Block → View → View → Option Block → Type 0
TakesBlock NoBlock before old new after = (after ≡ before) × SamePlaces old new
TakesBlock (Fresh size align) before old new after =
    (block : Block) × (after ≡ solid block) × Asked (Fresh size align) old new (Placed block)
TakesBlock (Larger b size align) before old new after =
    (block : Block) × (after ≡ solid block) × Asked (Larger b size align) old new (Placed block)

-- ---- Block after block

-- An ask names the block that it replaces by its place among those that were placed before.
abbrev pub meant : List Block → Ask ℕ → Ask Block
meant blocks NoBlock = NoBlock
meant blocks (Fresh size align) = Fresh size align
meant blocks (Larger at size align) = first_or_larger (slice_get blocks at) size align

-- These were asked for one after another and nothing else, where `blocks` had been placed before; each was placed, and
-- `later` are all that are placed then.
unfoldable pub Runs : List (Ask ℕ) → List Block → View → List Block → View → Type 0
Runs [] blocks old later new = (later ≡ blocks) × SamePlaces old new
Runs (NoBlock ∷ asks) blocks old later new = Runs asks blocks old later new
Runs (ask ∷ asks) blocks old later new =
    (block : Block) × (mid : View) × Asked (meant blocks ask) old mid (Placed block) × Runs asks (blocks ++ block ∷ []) mid later new

-- Of these the first `n` were placed, and the next one got this answer, which is no block.
pub record EndsAt (asks : List (Ask ℕ)) (blocks : List Block) (old new : View) (answer : Answer) : Type 0 where
  pub n : ℕ
  pub ask : Ask ℕ
  pub next : slice_get asks n ≡ Some ask
  pub later : List Block
  pub mid : View
  pub ran : Runs (take n asks) blocks old later mid
  pub asked : Asked (meant later ask) mid new answer
