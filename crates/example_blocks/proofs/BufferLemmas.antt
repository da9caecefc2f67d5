-- A buffer's bytes, in its own block or in the grown one.
use Rattle.std.proofs.Common.{◌≡◌, ℕ, ◌+◌, ◌<◌, ◌≤◌, min, arith, [], ◌∷◌, ◌++◌}
use Rattle.arena_chunks.specs.Memory.{Memory, image}
use Rattle.arena_chunks.specs.Source.{View}
use Rattle.arena_chunks.specs.Answers.Answer.{Placed}
use Rattle.arena_chunks.specs.BlockCalls.{PlacesBlock, GrowsBlock, WritesBlock}
use Rattle.arena_store.specs.declared.block.Block.{Block}
use Rattle.arena_chunks.proofs.Layers.{frame_reflexive, no_bytes, wrote_behind}
use Rattle.example_blocks.specs.Buffers.{IsBuffer, Has, HasRoom, contents, doubled}
use Rattle.example_blocks.specs.declared.buffer.Buffer.{Buffer}

-- a block that isn't full
pub room_left : (memory : Memory) (buffer : Buffer) → IsBuffer memory buffer → buffer.length < buffer.block.size
    → HasRoom memory memory buffer buffer.block
room_left memory buffer is room = grind (arith, is, frame_reflexive memory (buffer.block ∷ []))

-- a full one that grew
pub room_made : (old new : View) (buffer : Buffer) (b : Block) → IsBuffer old.memory buffer → buffer.block.size ≤ buffer.length
    → GrowsBlock old new buffer.block (doubled buffer.block.size) 1 (Placed b) → HasRoom old.memory new.memory buffer b
room_made old new buffer b is full grows =
    let kept : min buffer.block.size (doubled buffer.block.size) ≡ buffer.length = omega (arith, is.room) in
    grind (arith, grows.1.outcome, kept, is)

-- One more byte after the others.
pub pushed : (old mid new : Memory) (buffer : Buffer) (b : Block) (byte : ℕ) → HasRoom old mid buffer b
    → WritesBlock mid new b buffer.length (byte ∷ [])
    → Has new (record { block = b; length = buffer.length + 1 }) (contents old buffer ++ byte ∷ [])
pushed old mid new buffer b byte has writes = grind (arith, has, writes, wrote_behind mid new b buffer.length (byte ∷ []) writes)

-- a block that was placed for no bytes yet
pub empty_buffer : (old new : View) (size align : ℕ) (b : Block) → PlacesBlock old new size align (Placed b)
    → Has new.memory (record { block = b; length = 0 }) []
empty_buffer old new size align b places = grind (arith, places.1.outcome.of_layout, no_bytes (image new.memory) b.addr 0)

pub ruleset buffer_laws = (room_left, room_made, pushed)
