-- A row with room for boxes, of which the first is written.
use Rattle.std.specs.Prelude.{◌≡◌, ◌⊎◌, ℕ, Result, Ok, Err, false, [], ◌∷◌}
use Rattle.arena_rules.specs.Rounding.{is_layout}
use Rattle.arena_chunks.specs.Memory.{Memory}
use Rattle.arena_chunks.specs.Source.{View}
use Rattle.arena_chunks.specs.Answers.Answer.{Placed, Refused, Exhausted}
use Rattle.arena_chunks.specs.BlockCalls.{PlacesBlock}
use Rattle.arena_store.specs.declared.block.Block.{Block}
use Rattle.arena_items.specs.declared.item.Item.{Ghosts}
use Rattle.arena_items.specs.declared.boxes.Box.{Box}
use Rattle.arena_items.specs.declared.room.AllocError.{AllocError}
use Rattle.arena_items.specs.declared.room.AllocError.TheVariants.{AllocErr, CapacityOverflow, OutOfMemory}
use Rattle.arena_items.specs.Room.{Took}
use Rattle.arena_items.specs.Values.{IsBoxIn, box_value, bytes_of, elements}
use Rattle.example_blocks.specs.TwoValues.{AfterPlacing}

-- The row's first value is a box, which is held and has the number as its value.
pub record BeginsWith (number : Ghosts ℕ) (handle : Ghosts (Box ℕ)) (memory : Memory) (row : Block) (n : ℕ) : Type 0 where
  pub box : Box ℕ
  pub first : elements handle.SIZE handle.decoded 1 (bytes_of memory row) ≡ box ∷ []
  pub held : IsBoxIn number memory box
  pub value : box_value number memory box ≡ n

-- A number is placed in a box, and then a row of this size and alignment. The first error of the two is the result.
abbrev pub BoxThenRow : Ghosts ℕ → View → View → ℕ → ℕ → ℕ → Result Block AllocError → Type 0
BoxThenRow number old new n size align (Ok row) =
    AfterPlacing number old (λ v. v ≡ n) (λ between box. Took new (λ last. PlacesBlock between last size align (Placed row)))
BoxThenRow number old new n size align (Err (AllocErr k)) =
    PlacesBlock old new number.SIZE number.ALIGN (Refused k)
    ⊎ AfterPlacing number old (λ v. v ≡ n) (λ between box. PlacesBlock between new size align (Refused k))
BoxThenRow number old new n size align (Err OutOfMemory) =
    PlacesBlock old new number.SIZE number.ALIGN Exhausted
    ⊎ AfterPlacing number old (λ v. v ≡ n) (λ between box. PlacesBlock between new size align Exhausted)
BoxThenRow number old new n size align (Err CapacityOverflow) = (is_layout size align ≡ false) × (new ≡ old)
