-- What a refusal implies, whatever type carries it.
use Rattle.std.proofs.Common.{◌≡◌, ℕ, arith, Err}
use Rattle.arena_rules.specs.Moves.{Resizing}
use Rattle.arena_chunks.specs.Source.{View}
use Rattle.arena_chunks.specs.Answers.{Answer, answer_of, answer_by}
use Rattle.arena_chunks.specs.BlockCalls.{PlacesBlock, ResizesBlock}
use Rattle.arena_store.specs.declared.block.ArenaErr.{ArenaErr}
use Rattle.arena_store.specs.declared.block.ArenaErr.TheVariants.{AllocErr, OutOfMemory}
use Rattle.arena_store.specs.declared.block.Block.{Block}
use Rattle.example_blocks.specs.Buffers.{buffer_answer}
use Rattle.example_blocks.specs.declared.buffer.BufferErr.TheVariants.{NoPlace}

-- A property of a refusal's answer holds for a result that contains the block in another form,
pub refused_by : {X : Type 0} (block : X → Block) (e : ArenaErr) (P : Answer → Type 0) → P (answer_of (Err e))
    → P (answer_by block (Err e))
refused_by block (AllocErr k) P is = is
refused_by block OutOfMemory P is = is

-- and of one with a buffer's error.
pub refused_buffer : {X : Type 0} (block : X → Block) (e : ArenaErr) (P : Answer → Type 0) → P (answer_of (Err e))
    → P (buffer_answer block (Err (NoPlace e)))
refused_buffer block (AllocErr k) P is = is
refused_buffer block OutOfMemory P is = is

-- A refusal leaves the arena's memory as it was.
pub refused_memory : (old new : View) (size align : ℕ) (e : ArenaErr) → PlacesBlock old new size align (answer_of (Err e))
    → new.memory ≡ old.memory
refused_memory old new size align e places = grind (arith, places)

pub resize_refused_memory : (way : Resizing) (old new : View) (block : Block) (size align : ℕ) (e : ArenaErr)
    → ResizesBlock way old new block size align (answer_of (Err e)) → new.memory ≡ old.memory
resize_refused_memory way old new block size align e resizes = grind (arith, resizes)
