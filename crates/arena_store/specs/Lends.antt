-- The final values of a chunk and of the bytes of chunks, once a `&mut` into their bytes has ended.
use Rattle.std.specs.Prelude.{ℕ, ◌-◌, ◌==◌, nat_le, if◌then◌else◌, List, [], ◌∷◌}
use Rattle.std.specs.Borrow.{Fml, MutBor, Array, Lends, u8}
use Rattle.arena_rules.specs.State.{Chunk}
use Rattle.arena_region.specs.Bytes.{written_from}
use Rattle.arena_store.specs.Memory.{Memory}
use Rattle.arena_store.specs.Chunks.{Chunks}
use Rattle.arena_store.specs.Stored.{with_part, with_part_in}
use Rattle.arena_store.specs.declared.block.Block.{Block}
use Rattle.arena_store.specs.declared.chunk.StoredChunk.{StoredChunk}
use Rattle.arena_store.specs.contracts.chunk.StoredChunk as chunk
use Rattle.arena_store.specs.contracts.table.Table as table

-- the chunk has the final bytes written through r
abbrev pub LendsPart : MutBor StoredChunk → ℕ → MutBor (List ℕ) → Fml
LendsPart c addr r = Lends chunk.the_row (Array u8 0) c r (with_part c.now addr)

-- the table has the final bytes written through r
abbrev pub LendsPartIn : MutBor Chunks → ℕ → MutBor (List ℕ) → Fml
LendsPartIn t addr r =
    Lends table.the_row (Array u8 0) t r (λ list. record { items = with_part_in t.now.items addr list; spare = t.now.spare })

-- the bytes of chunks with a list written from an address on, in the chunk that has the address
abbrev pub bytes_with : List Chunk → List (List ℕ) → ℕ → List ℕ → List (List ℕ)
bytes_with [] bytes addr list = bytes
bytes_with (newest ∷ older) [] addr list = []
bytes_with (newest ∷ older) (part ∷ bytes) addr list =
    if nat_le newest.base addr then written_from part (addr - newest.base) list ∷ bytes else part ∷ bytes_with older bytes addr list

-- a memory with a list written over a block's bytes; nothing is written over an empty block
abbrev pub with_block : Memory → Block → List ℕ → Memory
with_block memory block list =
    record memory { bytes = if block.size == 0 then memory.bytes else bytes_with memory.state.chunks memory.bytes block.addr list }
