-- What the calls on blocks do to an arena and its source.
use Rattle.std.specs.Prelude.{◌≡◌, ℕ, ◌+◌, ◌<◌, ◌≤◌, ◌%◌, ◌*◌, ◌&&◌, min, nat_lt, true, false, Bool, Option, Some, None, List, [], ◌∷◌, length, IsTrue}
use Rattle.arena_rules.specs.Rounding.{is_layout}
use Rattle.arena_rules.specs.State.{State, IsValid}
use Rattle.arena_rules.specs.Search.{place, alloc_requests}
use Rattle.arena_rules.specs.Moves.{Outcome, Resizing, alloc, dealloc, growing, shrinking, resize, resize_requests}
use Rattle.arena_rules.specs.Moves.Resizing.{Anew}
use Rattle.arena_rules.specs.Blocks.{IsBlock}
use Rattle.arena_rules.specs.Statistics.{one_allocation, resized}
use Rattle.arena_rules.specs.declared.place.Place.{Place}
use Rattle.arena_store.specs.Memory.{Memory, is_readable, image, bytes_from, Writes}
use Rattle.arena_store.specs.Source.{View, IsAsked}
use Rattle.arena_core.specs.Frame.{Frame, padded}
use Rattle.arena_core.specs.Answers.{Answer, OnAnswer}
use Rattle.arena_core.specs.Answers.Answer.{Refused}
use Rattle.arena_store.specs.declared.block.Block.{Block}

-- ---- Blocks

-- the place of a block
abbrev pub place_of : Block → Place
place_of b = record { addr = b.addr; size = b.size; align = b.align }

-- a readable block of this state and this layout
pub record IsBlockOf (state : State) (size align : ℕ) (b : Block) : Type 0 where
  pub generation : b.generation ≡ state.generation
  pub of_size : b.size ≡ size
  pub of_align : b.align ≡ align
  pub readable : IsTrue (is_readable state b)

-- its address is a multiple of its alignment, and of the least alignment
pub record IsAligned (state : State) (b : Block) : Type 0 where
  pub own : b.addr % b.align ≡ 0
  pub least : b.addr % state.min_align ≡ 0

-- ---- What calls that place a block share

-- The call is refused by its rule, after k refusals, which are the source's. The arena is as it was.
pub record IsRefused (move : ℕ → Option Outcome) (asks : ℕ → List (ℕ × ℕ)) (old new : View) (k : ℕ) : Type 0 where
  pub step : move k ≡ Some (record { answer = None; state = old.memory.state })
  pub asked : IsAsked old.source new.source k (asks k)
  pub memory : new.memory ≡ old.memory

-- There is no memory for the table of chunks, before the source is asked: there is no place for the layout in the
-- newest chunk of a growing arena. Nothing changed.
pub record IsExhausted (old new : View) (size align : ℕ) : Type 0 where
  pub place : place old.memory.state size align ≡ None
  pub growing : old.memory.state.is_growing ≡ true
  pub same : new ≡ old

-- the state is valid before and after
pub record AreValid (old new : Memory) : Type 0 where
  pub entry : IsValid old.state
  pub exit : IsValid new.state

-- ---- A new block

-- A block is placed by the rule after k refusals, which are the source's. No byte in use changes.
pub record IsPlaced (old new : View) (size align k : ℕ) (b : Block) : Type 0 where
  pub step : alloc old.memory.state size align k ≡ Some (record { answer = Some b.addr; state = new.memory.state })
  pub asked : IsAsked old.source new.source k (alloc_requests old.memory.state size align k)
  pub of_layout : IsBlockOf new.memory.state size align b
  pub aligned : IsAligned new.memory.state b
  pub statistics : new.memory.statistics ≡ one_allocation old.memory.statistics
  pub frame : Frame old.memory new.memory [] (b ∷ [])

-- a call that places a block, where k requests are refused
pub record PlacesAfter (old new : View) (size align k : ℕ) (answer : Answer) : Type 0 where
  pub valid : AreValid old.memory new.memory
  pub outcome : OnAnswer answer (IsPlaced old new size align k)
      (λ refused. (refused ≡ k) × IsRefused (alloc old.memory.state size align) (alloc_requests old.memory.state size align) old new k)
      (IsExhausted old new size align)

-- A call that places a block does so for some number of refusals; if it is refused, it returns that number.
abbrev pub PlacesBlock : View → View → ℕ → ℕ → Answer → Type 0
PlacesBlock old new size align answer = (k : ℕ) × PlacesAfter old new size align k answer

-- ---- A block that is resized

-- A block is resized by the rule after k refusals, which are the source's. The new block begins with the bytes of the
-- old one, as many as both sizes have. Everything else that was in use is as it was. If the old block is one of the
-- arena's, so is the new one.
pub record IsResized (way : Resizing) (old new : View) (block : Block) (size align k : ℕ) (b : Block) : Type 0 where
  pub step : resize way old.memory.state block.addr size align k ≡ Some (record { answer = Some b.addr; state = new.memory.state })
  pub asked : IsAsked old.source new.source k (resize_requests way old.memory.state size align k)
  pub of_layout : IsBlockOf new.memory.state size align b
  pub aligned : IsBlock old.memory.state (place_of block) → IsAligned new.memory.state b
  pub statistics : new.memory.statistics ≡ resized way old.memory.statistics
  pub bytes : bytes_from (image new.memory) b.addr (min block.size size) ≡ bytes_from (image old.memory) block.addr (min block.size size)
  pub frame : Frame old.memory new.memory (block ∷ []) (b ∷ [])

-- a call that resizes a block, where k requests are refused
pub record ResizesAfter (way : Resizing) (old new : View) (block : Block) (size align k : ℕ) (answer : Answer) : Type 0 where
  pub valid : AreValid old.memory new.memory
  pub outcome : OnAnswer answer (IsResized way old new block size align k)
      (λ refused. (refused ≡ k)
      × IsRefused (resize way old.memory.state block.addr size align) (resize_requests way old.memory.state size align) old new k)
      ((way ≡ Anew) × IsExhausted old new size align)

abbrev pub ResizesBlock : Resizing → View → View → Block → ℕ → ℕ → Answer → Type 0
ResizesBlock way old new block size align answer = (k : ℕ) × ResizesAfter way old new block size align k answer

-- what becomes of a block that grows, and of one that shrinks
abbrev pub growing_of : Memory → Block → ℕ → ℕ → Resizing
growing_of memory b size align = growing memory.state b.addr b.size b.align size align

abbrev pub shrinking_of : Memory → Block → ℕ → ℕ → Resizing
shrinking_of memory b size align = shrinking memory.state b.addr b.size b.align size align

abbrev pub GrowsBlock : View → View → Block → ℕ → ℕ → Answer → Type 0
GrowsBlock old new block size align answer = ResizesBlock (growing_of old.memory block size align) old new block size align answer

abbrev pub ShrinksBlock : View → View → Block → ℕ → ℕ → Answer → Type 0
ShrinksBlock old new block size align answer = ResizesBlock (shrinking_of old.memory block size align) old new block size align answer

-- A call is refused because of its arguments: nothing was asked for and nothing changed.
pub record Refuses (old new : View) (answer : Answer) : Type 0 where
  pub told : answer ≡ Refused 0
  pub same : new ≡ old

-- A block is resized at its alignment: an empty one is allocated again, and any other shrinks or grows.
pub record Reallocates (old new : View) (block : Block) (size : ℕ) (answer : Answer) : Type 0 where
  pub refused : is_layout size block.align ≡ false → Refuses old new answer
  pub anew : IsTrue (is_layout size block.align) → block.size ≡ 0 → PlacesBlock old new size block.align answer
  pub shrunk : IsTrue (is_layout size block.align) → 0 < block.size → size ≤ block.size
      → ShrinksBlock old new block size block.align answer
  pub grown : IsTrue (is_layout size block.align) → 0 < block.size → block.size < size
      → GrowsBlock old new block size block.align answer

-- n elements of this size and alignment in a row: a valid layout of some bytes
abbrev pub is_array : ℕ → ℕ → ℕ → Bool
is_array size align n = is_layout (n * size) align && nat_lt 0 (n * size)

-- ---- Blocks given back, and written

-- A block is given back: the cursor moves only if the block is at it. No byte changes at all.
pub record GivesBack (old new : Memory) (block : Block) : Type 0 where
  pub valid : AreValid old new
  pub memory : new ≡ record old { state = dealloc old.state block.addr block.size }
  pub frame : Frame old new (padded old.state.min_align block ∷ []) []

-- A range of a block's bytes, from this index on, is replaced by a list. Nothing else changes.
pub record WritesBlock (old new : Memory) (block : Block) (at : ℕ) (list : List ℕ) : Type 0 where
  pub valid : AreValid old new
  pub state : new.state ≡ old.state
  pub statistics : new.statistics ≡ old.statistics
  pub bytes : Writes old new (block.addr + at) list
  pub frame : Frame old new (block ∷ []) (block ∷ [])

-- the same by a change of the range's bytes that keeps their number, of which this list is a possible result
pub record EditsBlock (old new : Memory) (block : Block) (at size : ℕ) (relates : List ℕ → List ℕ → Type 0) : Type 0 where
  pub list : List ℕ
  pub sized : length list ≡ size
  pub related : relates (bytes_from (image old) (block.addr + at) size) list
  pub writes : WritesBlock old new block at list
