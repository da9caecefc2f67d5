-- The final value of an allocator, once a `&mut` into the bytes of a block has ended.
use Rattle.std.specs.Prelude.{ℕ, List}
use Rattle.std.specs.Borrow.{Fml, RattleType, MutBor, Array, Lends, u8}
use Rattle.arena_store.specs.Lends.{with_block}
use Rattle.arena_store.specs.Source.{View, view}
use Rattle.arena_store.specs.declared.block.Block.{Block}
use Rattle.arena_store.specs.declared.source.ChunkSource.{Ghosts}
use Rattle.arena_chunks.specs.contracts.allocator.Allocator as allocator

-- the block has the final bytes written through r, and the source is as it was
abbrev pub LendsBlockOf : (C : RattleType) → Ghosts C.Denot → MutBor View → Block → MutBor (List ℕ) → Fml
LendsBlockOf C chunks a block r =
    Lends (allocator.the_row C chunks) (Array u8 0) a r (λ list. view (with_block a.now.memory block list) a.now.source)
