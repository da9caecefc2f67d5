-- The calls on an arena keep its kind.
use Rattle.std.proofs.Common.{arith, ℕ, ◌*◌, Result, List}
use Rattle.std.proofs.lemmas.Bool.{cases_Bool}
use Rattle.arena_rules.specs.Rounding.{is_layout}
use Rattle.arena_rules.specs.Moves.{Resizing}
use Rattle.arena_chunks.specs.Memory.{Memory}
use Rattle.arena_chunks.specs.Source.{View}
use Rattle.arena_chunks.specs.Frame.{Frame}
use Rattle.arena_chunks.specs.Answers.{Answer}
use Rattle.arena_chunks.specs.BlockCalls.{PlacesBlock, ResizesBlock, GivesBack, WritesBlock}
use Rattle.arena_store.specs.declared.block.Block.{Block}
use Rattle.arena_items.specs.Placing.{Answers, PlacesArray}
use Rattle.arena_items.specs.declared.boxes.Box.{Box}
use Rattle.arena_items.specs.declared.slices.BoxSlice.{BoxSlice}
use Rattle.arena_items.specs.declared.placing.ItemErr.{ItemErr}
use Rattle.arena_pool.specs.declared.kind.PoolKind.{PoolKind}
use Rattle.arena_pool.specs.Kinds.{IsOfKind}

-- a frame keeps it
pub frame_of_kind : (kind : PoolKind) (old new : Memory) (before after : List Block) → Frame old new before after → IsOfKind kind old.state
    → IsOfKind kind new.state
frame_of_kind kind old new before after frame of_kind = grind (arith, frame.is_growing, frame.allocated)

-- ---- The calls on blocks

pub placed_of_kind : (kind : PoolKind) (old new : View) (size align : ℕ) (answer : Answer) → PlacesBlock old new size align answer
    → IsOfKind kind old.memory.state → IsOfKind kind new.memory.state
placed_of_kind kind old new size align answer places of_kind = grind (arith, places, frame_of_kind kind old.memory new.memory)

pub resized_of_kind : (kind : PoolKind) (way : Resizing) (old new : View) (block : Block) (size align : ℕ) (answer : Answer)
    → ResizesBlock way old new block size align answer → IsOfKind kind old.memory.state → IsOfKind kind new.memory.state
resized_of_kind kind way old new block size align answer resizes of_kind = grind (arith, resizes, frame_of_kind kind old.memory new.memory)

pub returned_of_kind : (kind : PoolKind) (old new : Memory) (block : Block) → GivesBack old new block → IsOfKind kind old.state
    → IsOfKind kind new.state
returned_of_kind kind old new block gives = frame_of_kind kind old new _ _ gives.frame

pub wrote_of_kind : (kind : PoolKind) (old new : Memory) (block : Block) (at : ℕ) (list : List ℕ) → WritesBlock old new block at list
    → IsOfKind kind old.state → IsOfKind kind new.state
wrote_of_kind kind old new block at list writes = frame_of_kind kind old new _ _ writes.frame

-- ---- The calls on values

pub array_of_kind : (kind : PoolKind) (old new : View) (size align n : ℕ) (answer : Answer) → PlacesArray old new size align n answer
    → IsOfKind kind old.memory.state → IsOfKind kind new.memory.state
array_of_kind kind old new size align n answer places of_kind =
    grind (arith, cases_Bool (is_layout (n * size) align), places, placed_of_kind kind old new (n * size) align answer)

pub box_of_kind : {T : Type 0} (kind : PoolKind) (old new : View) (size align : ℕ) (result : Result (Box T) ItemErr)
    → Answers (λ b. b.block) result (PlacesBlock old new size align) → IsOfKind kind old.memory.state → IsOfKind kind new.memory.state
box_of_kind kind old new size align result placed of_kind = grind (arith, placed, placed_of_kind kind old new size align)

pub slice_of_kind : {T : Type 0} (kind : PoolKind) (old new : View) (size align n : ℕ) (result : Result (BoxSlice T) ItemErr)
    → Answers (λ s. s.block) result (PlacesArray old new size align n) → IsOfKind kind old.memory.state → IsOfKind kind new.memory.state
slice_of_kind kind old new size align n result placed of_kind = grind (arith, placed, array_of_kind kind old new size align n)
