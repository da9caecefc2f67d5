-- The final value of an arena, once a `&mut` into the bytes of a block has ended.
use Rattle.std.specs.Prelude.{ℕ, ◌==◌, if◌then◌else◌, List}
use Rattle.std.specs.Borrow.{Fml, RattleType, MutBor, Array, Lends, u8}
use Rattle.arena_store.specs.Lends.{with_block, bytes_with}
use Rattle.arena_store.specs.Memory.{Memory}
use Rattle.arena_store.specs.declared.block.Block.{Block}
use Rattle.arena_core.specs.contracts.arena.Arena as arena

-- the block has the final bytes written through r
abbrev pub LendsBlock : RattleType → MutBor Memory → Block → MutBor (List ℕ) → Fml
LendsBlock m a block r = Lends (arena.the_row m) (Array u8 0) a r (with_block a.now block)

-- a memory with a list written over n bytes from an address on; nothing is written over no bytes
abbrev pub with_range : Memory → ℕ → ℕ → List ℕ → Memory
with_range memory addr n list =
    record memory { bytes = if n == 0 then memory.bytes else bytes_with memory.state.chunks memory.bytes addr list }

-- the n bytes from the address on are the final bytes written through r
abbrev pub LendsRange : RattleType → MutBor Memory → ℕ → ℕ → MutBor (List ℕ) → Fml
LendsRange m a addr n r = Lends (arena.the_row m) (Array u8 0) a r (with_range a.now addr n)
