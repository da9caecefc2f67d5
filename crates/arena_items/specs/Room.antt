-- What a collection that grows does to its arena: one call, or none.
use Rattle.std.specs.Prelude.{◌≡◌, ℕ, ◌*◌, ◌<◌, Result, Ok, Err, IsOkAnd}
use Rattle.arena_chunks.specs.Source.{View}
use Rattle.arena_chunks.specs.Answers.{Answer}
use Rattle.arena_chunks.specs.Answers.Answer.{Placed, Refused, Exhausted}
use Rattle.arena_chunks.specs.BlockCalls.{PlacesBlock, GrowsBlock}
use Rattle.arena_store.specs.declared.block.Block.{Block}
use Rattle.arena_store.specs.declared.block.ArenaErr.{ArenaErr}
use Rattle.arena_store.specs.declared.block.ArenaErr.TheVariants.{AllocErr as NoPlace, OutOfMemory as NoTable}
use Rattle.arena_items.specs.declared.placing.ItemErr.{ItemErr}
use Rattle.arena_items.specs.declared.placing.ItemErr.TheVariants.{AllocErr as NotPlaced, OutOfMemory as NoMemory, TooFew}
use Rattle.arena_items.specs.declared.room.Growth.{Growth}
use Rattle.arena_items.specs.declared.room.Growth.TheVariants.{Stays, GrowsTo, Overflows}
use Rattle.arena_items.specs.declared.room.AllocError.{AllocError}
use Rattle.arena_items.specs.declared.room.AllocError.TheVariants.{AllocErr, CapacityOverflow, OutOfMemory}

-- a fact of the answer that a result represents: an arena never reports an overflow
abbrev pub RoomAnswer : {X : Type 0} → (X → Block) → Result X AllocError → (Answer → Type 0) → Type 0
RoomAnswer block (Ok x) P = P (Placed (block x))
RoomAnswer block (Err (AllocErr refused)) P = P (Refused refused)
RoomAnswer block (Err OutOfMemory) P = P Exhausted
RoomAnswer block (Err CapacityOverflow) P = ⊥

-- the arena's result, as that of a call that may grow a collection
abbrev pub growth_answer : {X : Type 0} → Result X ArenaErr → Result X AllocError
growth_answer (Ok x) = Ok x
growth_answer (Err (NoPlace refused)) = Err (AllocErr refused)
growth_answer (Err NoTable) = Err OutOfMemory

-- the error of a placing as that of a growth: an iterator that ended early becomes a refusal with no request
abbrev pub growth_error : ItemErr → AllocError
growth_error (NotPlaced refused) = AllocErr refused
growth_error NoMemory = OutOfMemory
growth_error (TooFew taken) = AllocErr 0

-- A block of this layout is taken for a collection: placed if the capacity was 0, and otherwise grown.
pub record TakesRoom (old new : View) (block : Block) (cap size align : ℕ) (answer : Answer) : Type 0 where
  pub placed : cap ≡ 0 → PlacesBlock old new size align answer
  pub grown : 0 < cap → GrowsBlock old new block size align answer

-- No cursor moved, and nothing was counted or asked for.
pub record SamePlaces (old new : View) : Type 0 where
  pub state : new.memory.state ≡ old.memory.state
  pub statistics : new.memory.statistics ≡ old.memory.statistics
  pub source : new.source ≡ old.source

-- The call of the arena that took the room, before other bytes were written.
pub record Took (new : View) (P : View → Type 0) : Type 0 where
  pub between : View
  pub took : P between
  pub places : SamePlaces between new

-- What a call that makes room for values of this size and alignment does to its arena, by its growth: nothing if there
-- is room, one call that places or grows a block, or nothing and a refusal.
abbrev pub MakesRoom : {X : Type 0} → ℕ → ℕ → View → View → Block → ℕ → Growth → (X → Block)
    → Result X AllocError → Type 0
MakesRoom size align old new block cap Stays f result = IsOkAnd result (λ x. f x ≡ block) × SamePlaces old new
MakesRoom size align old new block cap (GrowsTo more) f result =
    Took new (λ between. RoomAnswer f result (TakesRoom old between block cap (more * size) align))
MakesRoom size align old new block cap Overflows f result = (result ≡ Err CapacityOverflow) × (new ≡ old)

-- the capacity afterwards
abbrev pub capacity_after : Growth → ℕ → ℕ
capacity_after Stays cap = cap
capacity_after (GrowsTo more) cap = more
capacity_after Overflows cap = cap
