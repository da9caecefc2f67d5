-- A buffer that grows, as a list of bytes.
use Rattle.std.specs.Prelude.{◌≡◌, ℕ, ◌*◌, ◌<◌, ◌≤◌, max, Result, Ok, Err, List, [], ◌∷◌, IsTrue}
use Rattle.arena_chunks.specs.Memory.{Memory, image, is_readable, bytes_from}
use Rattle.arena_chunks.specs.Answers.{Answer}
use Rattle.arena_chunks.specs.Answers.Answer.{Placed, Refused, Exhausted}
use Rattle.arena_chunks.specs.Frame.{Frame}
use Rattle.arena_store.specs.declared.block.Block.{Block}
use Rattle.arena_store.specs.declared.block.ArenaErr.TheVariants.{AllocErr, OutOfMemory}
use Rattle.example_blocks.specs.declared.buffer.Buffer.{Buffer}
use Rattle.example_blocks.specs.declared.buffer.BufferErr.{BufferErr}
use Rattle.example_blocks.specs.declared.buffer.BufferErr.TheVariants.{CapacityOverflow, NoPlace}

-- Its block may be read, and has room for its bytes.
pub record IsBuffer (memory : Memory) (buffer : Buffer) : Type 0 where
  pub readable : IsTrue (is_readable memory.state buffer.block)
  pub room : buffer.length ≤ buffer.block.size

-- its bytes: the first ones of its block
abbrev pub contents : Memory → Buffer → List ℕ
contents memory buffer = bytes_from (image memory) buffer.block.addr buffer.length

-- A buffer with these bytes.
pub record Has (memory : Memory) (b : Buffer) (list : List ℕ) : Type 0 where
  pub buffer : IsBuffer memory b
  pub bytes : contents memory b ≡ list

-- the arena's answer, as the buffer's own error type carries it
abbrev pub buffer_answer : {X : Type 0} → (X → Block) → Result X BufferErr → Answer
buffer_answer block (Ok x) = Placed (block x)
buffer_answer block (Err CapacityOverflow) = Refused 0
buffer_answer block (Err (NoPlace (AllocErr refused))) = Refused refused
buffer_answer block (Err (NoPlace OutOfMemory)) = Exhausted

-- the size to which a full block grows
abbrev pub doubled : ℕ → ℕ
doubled size = 2 * max size 4

-- The block can replace the buffer's own: it has the buffer's bytes, and room for one more.
pub record HasRoom (old new : Memory) (buffer : Buffer) (b : Block) : Type 0 where
  pub room : buffer.length < b.size
  pub readable : IsTrue (is_readable new.state b)
  pub bytes : bytes_from (image new) b.addr buffer.length ≡ contents old buffer
  pub frame : Frame old new (buffer.block ∷ []) (b ∷ [])
