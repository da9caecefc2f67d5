-- What a call asks of its arena, block after block.
use Rattle.std.specs.Prelude.{◌≡◌, ℕ, ◌*◌, max, Option, Some, None, Result, Ok, Err, List, [], ◌∷◌}
use Rattle.std.specs.Int.{IsNextPowerOfTwo}
use Rattle.arena_chunks.specs.Source.{View}
use Rattle.arena_chunks.specs.Answers.{Answer, OnAnswer}
use Rattle.arena_chunks.specs.Frame.{Frame, ArePairwiseApart}
use Rattle.arena_chunks.specs.BlockCalls.{PlacesBlock}
use Rattle.arena_store.specs.declared.block.Block.{Block}
use Rattle.arena_items.specs.Room.{SamePlaces}
use Rattle.arena_items.specs.declared.room.Growth.{Growth}
use Rattle.arena_items.specs.declared.room.Growth.TheVariants.{Stays, GrowsTo, Overflows}
use Rattle.arena_items.specs.declared.room.AllocError.{AllocError}
use Rattle.arena_items.specs.declared.room.AllocError.TheVariants.{AllocErr, CapacityOverflow, OutOfMemory}
use Rattle.arena_vec.specs.Held.{empty_block}
use Rattle.arena_vec.specs.Growth.{new_growth}

-- A block of this size and this alignment; the block of a new map's table for this many pairs, with slots of this size
-- and alignment; a block of no bytes, or the empty one of no storage, for which the arena isn't asked; or more than a
-- vector can have.
pub data Ask : Type 0 where
  Room : ℕ → ℕ → Ask
  Table : ℕ → ℕ → ℕ → Ask
  NoBytes : Ask
  Empty : ℕ → Ask
  TooMuch : Ask

-- what a vector for n values of this size and alignment needs
abbrev pub ask_by : ℕ → ℕ → Growth → Ask
ask_by size align Stays = Empty align
ask_by size align (GrowsTo cap) = Room (cap * size) align
ask_by size align Overflows = TooMuch

abbrev pub vector_ask : ℕ → ℕ → ℕ → Ask
vector_ask size align n = ask_by size align (new_growth size n)

-- why a call was refused, if it was
abbrev pub refusal : {X : Type 0} → Result X AllocError → Option AllocError
refusal (Ok x) = None
refusal (Err e) = Some e

-- What follows the arena's answer. A block that it placed is the first of the call's blocks, and the call goes on.
-- Otherwise the call ends there, with the arena's refusal.
abbrev pub Follows : Answer → View → View → List Block → Option AllocError → (List Block → Type 0) → Type 0
Follows answer between new blocks end goes_on = OnAnswer answer (λ b. (rest : List Block) × (blocks ≡ b ∷ rest) × goes_on rest)
    (λ k. (end ≡ Some (AllocErr k)) × (blocks ≡ []) × (new ≡ between))
    ((end ≡ Some OutOfMemory) × (blocks ≡ []) × (new ≡ between))

-- One block is asked for, perhaps after bytes were written.
pub record Takes (size align : ℕ) (old new : View) (blocks : List Block) (end : Option AllocError)
    (goes_on : View → List Block → Type 0) : Type 0 where
  pub start : View
  pub between : View
  pub answer : Answer
  pub written : SamePlaces old start
  pub places : PlacesBlock start between size align answer
  pub then : Follows answer between new blocks end (goes_on between)

-- A call asks the arena for these blocks, one after another, until it is refused, and for nothing else. `blocks` are
-- those that it has then.
abbrev pub AsksFor : List Ask → View → View → List Block → Option AllocError → Type 0
AsksFor [] old new blocks end = (end ≡ None) × (blocks ≡ []) × SamePlaces old new
AsksFor (Room size align ∷ asks) old new blocks end =
    Takes size align old new blocks end (λ between rest. AsksFor asks between new rest end)
AsksFor (Table pairs slot align ∷ asks) old new blocks end = (slots : ℕ) × IsNextPowerOfTwo (max (2 * pairs) 8) slots
    × Takes (slots * slot) align old new blocks end (λ between rest. AsksFor asks between new rest end)
AsksFor (NoBytes ∷ asks) old new blocks end =
    (b : Block) × (rest : List Block) × (b.size ≡ 0) × (blocks ≡ b ∷ rest) × AsksFor asks old new rest end
AsksFor (Empty align ∷ asks) old new blocks end =
    (rest : List Block) × (blocks ≡ empty_block align ∷ rest) × AsksFor asks old new rest end
AsksFor (TooMuch ∷ asks) old new blocks end = (end ≡ Some CapacityOverflow) × (blocks ≡ []) × SamePlaces old new

-- A call asks for exactly this. Its blocks were free and have no address in common, and what was in use is as it was.
pub record PlacesAll (asks : List Ask) (old new : View) (blocks : List Block) (end : Option AllocError) : Type 0 where
  pub asked : AsksFor asks old new blocks end
  pub apart : ArePairwiseApart blocks
  pub frame : Frame old.memory new.memory [] blocks
