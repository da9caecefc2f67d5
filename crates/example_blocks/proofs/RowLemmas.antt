-- A box, and then a row into which it is written.
use Rattle.std.proofs.Common.{◌≡◌, ℕ, ◌+◌, ◌∙◌, inl, inr, Ok, Err, List, [], ◌∷◌, ◌++◌, refl}
use Rattle.arena_chunks.specs.Memory.{Memory}
use Rattle.arena_chunks.specs.Source.{View}
use Rattle.arena_chunks.specs.Answers.Answer.{Placed}
use Rattle.arena_chunks.specs.BlockCalls.{PlacesBlock, WritesBlock}
use Rattle.arena_chunks.specs.Frame.{Frame}
use Rattle.arena_store.specs.declared.block.Block.{Block}
use Rattle.arena_items.specs.declared.item.Item.{Ghosts}
use Rattle.arena_items.specs.declared.boxes.Box.{Box}
use Rattle.arena_items.specs.declared.placing.ItemErr.{ItemErr}
use Rattle.arena_items.specs.declared.placing.ItemErr.TheVariants.{AllocErr as NotPlaced, OutOfMemory as NoMemory, TooFew}
use Rattle.arena_items.specs.declared.room.AllocError.{AllocError}
use Rattle.arena_items.specs.declared.room.AllocError.TheVariants.{AllocErr, CapacityOverflow, OutOfMemory}
use Rattle.arena_items.specs.Room.{RoomAnswer, TakesRoom, growth_error}
use Rattle.arena_items.specs.Typed.{PlacesBox}
use Rattle.arena_items.specs.Values.{bytes_of, elements}
use Rattle.arena_items.proofs.Layers.{box_held, box_same, box_apart, elements-all}
use Rattle.example_blocks.specs.Rows.{BeginsWith, BoxThenRow}

module _ (number : Ghosts ℕ) (old new : View) (n size align : ℕ) where
  -- The box is refused,
  pub box_refused : (e : ItemErr) → PlacesBox number old new (λ v. v ≡ n) (Err e)
      → BoxThenRow number old new n size align (Err (growth_error e))
  box_refused (NotPlaced k) places = inl places.placed
  box_refused NoMemory places = inl places.placed
  box_refused (TooFew taken) places = absurd places.placed

  -- or the row is.
  pub row_refused : (mid : View) (box : Box ℕ) (empty : Block) (e : AllocError) → PlacesBox number old mid (λ v. v ≡ n) (Ok box)
      → RoomAnswer {X = Block} (λ b. b) (Err e) (TakesRoom mid new empty 0 size align)
      → BoxThenRow number old new n size align (Err e)
  row_refused mid box empty (AllocErr k) places takes =
      inr (record { between = mid; box = box; placed = places; follows = takes.placed refl })
  row_refused mid box empty OutOfMemory places takes =
      inr (record { between = mid; box = box; placed = places; follows = takes.placed refl })
  row_refused mid box empty CapacityOverflow places takes = absurd takes

module _ (number : Ghosts ℕ) (handle : Ghosts (Box ℕ)) (old mid last : View) (new : Memory) (n at size align : ℕ) (list : List ℕ)
    (box : Box ℕ) (row : Block)
    (places : PlacesBox number old mid (λ v. v ≡ n) (Ok box)) (taken : PlacesBlock mid last size align (Placed row))
    (writes : WritesBlock last.memory new row at list) where
  -- The row begins with the box, which has the number as its value.
  pub row_begins : elements handle.SIZE handle.decoded (0 + 1) (bytes_of new row)
      ≡ elements handle.SIZE handle.decoded 0 (bytes_of last.memory row) ++ box ∷ []
      → BeginsWith number handle new row n
  row_begins push =
      let frame : Frame mid.memory last.memory [] (row ∷ []) = taken.1.outcome.frame in
      let held = box_held number mid.memory last.memory [] (row ∷ []) box frame places.held tt in
      let apart = box_apart number mid.memory last.memory [] (row ∷ []) box frame places.held tt in record {
        box = box;
        first = elements-all handle.SIZE handle.decoded 1 _ _ _ push;
        held = box_held number last.memory new (row ∷ []) (row ∷ []) box writes.frame held apart;
        value = box_same number last.memory new (row ∷ []) (row ∷ []) box writes.frame held apart
            ∙ box_same number mid.memory last.memory [] (row ∷ []) box frame places.held tt ∙ places.value;
      }
