-- What a layer knows of its blocks.
use Rattle.std.specs.Prelude.{◌≡◌, ℕ, List, IsTrue}
use Rattle.std.specs.List.{AllByRecursion}
use Rattle.arena_chunks.specs.Memory.{Memory, image, is_readable, bytes_from}
use Rattle.arena_store.specs.declared.block.Block.{Block}

-- all bytes of a block
abbrev pub bytes_of : Memory → Block → List ℕ
bytes_of memory b = bytes_from (image memory) b.addr b.size

-- The block is readable and has these bytes.
pub record Holds (memory : Memory) (b : Block) (list : List ℕ) : Type 0 where
  pub readable : IsTrue (is_readable memory.state b)
  pub bytes : bytes_of memory b ≡ list

-- each of the blocks is readable
abbrev pub AreReadable : Memory → List Block → Type 0
AreReadable memory blocks = AllByRecursion (λ (b : Block). IsTrue (is_readable memory.state b)) blocks
