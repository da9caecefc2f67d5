-- Copies of boxed slices.
use Rattle.std.proofs.Common.{◌≡◌, ◌*◌, List, Ok, Err}
use Rattle.arena_chunks.specs.Memory.{Memory}
use Rattle.arena_chunks.specs.Source.{View}
use Rattle.arena_chunks.specs.Answers.Answer.{Placed}
use Rattle.arena_chunks.specs.BlockCalls.{PlacesBlock}
use Rattle.arena_store.specs.declared.block.Block.{Block}
use Rattle.arena_items.specs.Room.{RoomAnswer}
use Rattle.arena_items.specs.Values.{IsSliceIn, slice_list}
use Rattle.arena_items.specs.declared.item.Item.{Ghosts}
use Rattle.arena_items.specs.declared.slices.BoxSlice.{BoxSlice}
use Rattle.arena_items.specs.declared.room.AllocError.{AllocError}
use Rattle.arena_clone.specs.Asks.Ask.{Room}
use Rattle.arena_clone.specs.Kinds.{Kind, slice_of}
use Rattle.arena_clone.specs.Copies.{Copies}
use Rattle.arena_clone.specs.Rows.{CopiesRow}
use Rattle.arena_kinds.specs.declared.ids.CloneInSemanticIds.{CloneInSemanticIds}
use Rattle.arena_kinds.proofs.Layers.{places_one}
use Rattle.arena_clone.proofs.ThroughLemmas.{own_refused, value_refused, values_made}

module _ {T : Type 0} (item : Ghosts T) (kind : Kind T) (ids : CloneInSemanticIds) (source : Memory) {old : View} (s : BoxSlice T) where
  -- The block is refused,
  pub slice_refused : {new : View} {e : AllocError}
      → RoomAnswer (λ (b : Block). b) (Err e) (PlacesBlock old new (s.length * item.SIZE) item.ALIGN)
      → Copies (slice_of item kind) ids source old new s (Err e)
  slice_refused {e} placed =
      own_refused item kind (λ s. s.block) (IsSliceIn item) (slice_list item) (λ s. Unit {0}) (λ s. Room (s.length * item.SIZE) item.ALIGN)
      ids source s (places_one (λ (b : Block). b) (Err e) placed)

  module _ {X : Type 0} {mid new : View} {target : Block} (placed : PlacesBlock old mid (s.length * item.SIZE) item.ALIGN (Placed target))
    where
      -- or a value,
      pub slice_value_refused : {ys : List T} {e : AllocError}
          → CopiesRow {X = X} kind ids source mid new target (slice_list item source s) ys (Err e)
          → Copies (slice_of item kind) ids source old new s (Err e)
      slice_value_refused row =
          value_refused item kind (λ s. s.block) (IsSliceIn item) (slice_list item) (λ s. Unit {0})
          (λ s. Room (s.length * item.SIZE) item.ALIGN) ids source s (places_one (λ (b : Block). b) (Ok target) placed) row

      -- or all are copied.
      pub slice_made : {w : BoxSlice T} {x : X} → w.block ≡ target → w.length ≡ s.length
          → CopiesRow kind ids source mid new target (slice_list item source s) (slice_list item new.memory w) (Ok x)
          → Copies (slice_of item kind) ids source old new s (Ok w)
      slice_made at long row =
          let layout = placed.1.outcome.of_layout in
          values_made item kind (λ s. s.block) (IsSliceIn item) (slice_list item) (λ s. Unit {0})
          (λ s. Room (s.length * item.SIZE) item.ALIGN) ids source s (places_one (λ (b : Block). b) (Ok target) placed) row at
          (rw (at, long) (record { readable = row.readable; of_size = layout.of_size; of_align = layout.of_align })) tt
