-- How contracts see the table of older chunks.
use Rattle.std.specs.Prelude.{ℕ, List}
use Rattle.arena_store.specs.declared.chunk.StoredChunk.{StoredChunk}

-- the chunks, newest first, and the spare capacity
pub record Chunks : Type 0 where
  pub items : List StoredChunk
  pub spare : ℕ
