-- A list of blocks to which a new one is added.
use Rattle.std.proofs.Common.{List, [], ◌∷◌, ◌++◌, IsTrue}
use Rattle.arena_chunks.specs.Memory.{Memory, is_readable}
use Rattle.arena_chunks.specs.Frame.{Frame}
use Rattle.arena_store.specs.declared.block.Block.{Block}
use Rattle.arena_chunks.proofs.Layers.{frame_keeps_new}
use Rattle.example_blocks.specs.Blocks.{AreReadable}

-- All of them are readable.
pub added_readable : (old new : Memory) (bs : List Block) (b : Block) → Frame old new [] (b ∷ []) → AreReadable old bs
    → IsTrue (is_readable new.state b) → AreReadable new (bs ++ b ∷ [])
added_readable old new [] b frame readable is = (is, tt)
added_readable old new (c ∷ bs) b frame readable is = (
  (frame_keeps_new old new (b ∷ []) c frame readable.0).readable,
  added_readable old new bs b frame readable.1 is,
)
