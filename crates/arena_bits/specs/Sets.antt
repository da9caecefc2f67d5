-- Bit sets in an arena, and what calls on them do.
use Rattle.std.specs.Prelude.{◌≡◌, ℕ, ◌*◌, ◌⊎◌, List, [], ◌∷◌, Result, IfOk}
use Rattle.std.specs.Int.{from_le_bytes, w64}
use Rattle.arena_chunks.specs.Memory.{Memory}
use Rattle.arena_chunks.specs.Source.{View}
use Rattle.arena_chunks.specs.Frame.{Frame, AreBlocksApart}
use Rattle.arena_chunks.specs.BlockCalls.{PlacesBlock}
use Rattle.arena_store.specs.declared.block.Block.{Block}
use Rattle.arena_items.specs.Values.{bytes_of, elements, IsHeld}
use Rattle.arena_items.specs.Room.{RoomAnswer, SamePlaces}
use Rattle.arena_bits.specs.Bits.{Set, bits_of, words_for, joined, below}
use Rattle.arena_bits.specs.declared.set.BitSet.{BitSet}
use Rattle.arena_items.specs.declared.room.AllocError.{AllocError}

-- The handle is well formed and readable: it has the words that its capacity needs.
pub record IsSetIn (m : Memory) (s : BitSet) : Type 0 where
  pub place : IsHeld (s.words.length * 8) 8 m.state s.words.block
  pub count : s.words.length ≡ words_for s.capacity

-- its words, and the set that they are
abbrev pub words_of : Memory → BitSet → List ℕ
words_of m s = elements 8 (from_le_bytes w64) s.words.length (bytes_of m s.words.block)

abbrev pub set_of : Memory → BitSet → Set
set_of m s = bits_of (words_of m s)

-- one block, or two that share no byte
abbrev pub AreOneOrApart : Block → Block → Type 0
AreOneOrApart one other = (one ≡ other) ⊎ AreBlocksApart one other

-- A call that takes no memory turns the bits into this set. No byte in use changes but the set's own.
pub record BecomesSet (old new : View) (s : BitSet) (set : Set) : Type 0 where
  pub held : IsSetIn new.memory s
  pub set_is : set_of new.memory s ≡ set
  pub places : SamePlaces old new
  pub frame : Frame old.memory new.memory (s.words.block ∷ []) (s.words.block ∷ [])

-- The first words of a set were joined with those of another, which is as it was.
pub record JoinsFirst (old new : View) (s other : BitSet) (words : ℕ) : Type 0 where
  pub held : IsSetIn new.memory other
  pub same : words_of new.memory other ≡ words_of old.memory other
  pub becomes : BecomesSet old new s (joined (set_of old.memory s) (below (64 * words) (set_of old.memory other)))

-- A call that places a set for this many bits, as the arena places a block of its words' layout. It never overflows.
pub record PlacesSet (old new : View) (bits : ℕ) (set : Set) (result : Result BitSet AllocError) : Type 0 where
  pub placed : RoomAnswer (λ s. s.words.block) result (PlacesBlock old new (words_for bits * 8) 8)
  pub held : IfOk result (IsSetIn new.memory)
  pub capacity : IfOk result (λ s. s.capacity ≡ bits)
  pub set_is : IfOk result (λ s. set_of new.memory s ≡ set)
  pub frame : IfOk result (λ s. Frame old.memory new.memory [] (s.words.block ∷ []))
