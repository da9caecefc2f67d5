-- What calls that place values return.
use Rattle.std.specs.Prelude.{◌≡◌, ℕ, ◌*◌, ◌<◌, Result, Ok, Err, Option, false, IsTrue, List, [], length}
use Rattle.std.specs.Iterator.{Drains}
use Rattle.arena_rules.specs.Rounding.{is_layout}
use Rattle.arena_chunks.specs.Source.{View}
use Rattle.arena_chunks.specs.Answers.{Answer}
use Rattle.arena_chunks.specs.Answers.Answer.{Placed, Refused, Exhausted}
use Rattle.arena_chunks.specs.Frame.{Frame}
use Rattle.arena_chunks.specs.BlockCalls.{PlacesBlock, Refuses, GivesBack}
use Rattle.arena_store.specs.declared.block.Block.{Block}
use Rattle.arena_items.specs.declared.placing.ItemErr.{ItemErr}
use Rattle.arena_items.specs.declared.placing.ItemErr.TheVariants.{AllocErr, OutOfMemory, TooFew}

-- a fact of the answer that a result represents, or of how many items an iterator gave before it ended early
abbrev pub AnswersOr : {X : Type 0} → (ℕ → Type 0) → (X → Block) → Result X ItemErr → (Answer → Type 0) → Type 0
AnswersOr early block (Ok x) P = P (Placed (block x))
AnswersOr early block (Err (AllocErr refused)) P = P (Refused refused)
AnswersOr early block (Err OutOfMemory) P = P Exhausted
AnswersOr early block (Err (TooFew taken)) P = early taken

-- a fact of the answer that a call without an iterator represents: none ends early
abbrev pub Answers : {X : Type 0} → (X → Block) → Result X ItemErr → (Answer → Type 0) → Type 0
Answers block result P = AnswersOr (λ taken. ⊥) block result P

-- A call that places a block for n values of this size and alignment. If they have no layout it is refused with no
-- request.
pub record PlacesArray (old new : View) (size align n : ℕ) (answer : Answer) : Type 0 where
  pub refused : is_layout (n * size) align ≡ false → Refuses old new answer
  pub placed : IsTrue (is_layout (n * size) align) → PlacesBlock old new (n * size) align answer

-- A block was placed for n values, and given back. What was in use stays as it was.
pub record Abandons (old new : View) (size align n : ℕ) : Type 0 where
  pub between : View
  pub block : Block
  pub placed : PlacesArray old between size align n (Placed block)
  pub given : GivesBack between.memory new.memory block
  pub source : new.source ≡ between.source
  pub frame : Frame old.memory new.memory [] []

-- The iterator ended after `taken` items, fewer than n.
pub record EndsEarly {S A : Type 0} (steps : S → Option A → S → Type 0) (s : S) (n taken : ℕ) : Type 0 where
  pub few : taken < n
  pub items : List A
  pub counted : length items ≡ taken
  pub drains : Drains steps s items
