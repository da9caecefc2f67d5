-- What remains of a walk over the chunks of an arena.
use Rattle.std.specs.Prelude.{◌≡◌, ℕ, ◌-◌, Option, Some, None, List, [], ◌∷◌, drop, map}
use Rattle.arena_rules.specs.State.{used_length}
use Rattle.arena_rules.specs.State as state
use Rattle.arena_store.specs.Stored.{stored_chunk, stored_bytes, chunks_left, oldest, IsOrdered}
use Rattle.arena_store.specs.declared.chunk.StoredChunk.{StoredChunk}
use Rattle.arena_store.specs.declared.table.Used.{Used}
use Rattle.arena_core.specs.declared.iter.ChunksLeft.{ChunksLeft}
use Rattle.arena_core.specs.declared.iter.ChunkIter.{ChunkIter}
use Rattle.arena_core.specs.declared.iter.Chunk.{Chunk}

-- the bytes of a chunk that are used, and their first address and number
abbrev pub used_part : StoredChunk → List ℕ
used_part c = drop (c.cursor - c.base) (stored_bytes c)

abbrev pub used_range : StoredChunk → ℕ × ℕ
used_range c = (c.cursor, used_length (stored_chunk c))

-- a chunk as a walk returns it
abbrev pub told_chunk : state.Chunk → Chunk
told_chunk c = record { base = c.base; size = c.size; cursor = c.cursor }

-- the chunks that are still to come
abbrev pub all_left : ChunksLeft → List StoredChunk
all_left walk = chunks_left walk.newest (oldest walk.left walk.older.now.items)

-- the base of a chunk, and the first address and the bytes of its used part
abbrev pub Tells : Used → StoredChunk → Type 0
Tells used c = (used.base ≡ c.base) × (used.start ≡ c.cursor) × (used.bytes.now ≡ used_part c)

-- A step of the walk returns the used part of the first chunk that remains.
abbrev pub YieldsUsed : ChunksLeft → Option Used → ChunksLeft → Type 0
YieldsUsed old None new = (all_left old ≡ []) × (all_left new ≡ [])
YieldsUsed old (Some used) new = (c : StoredChunk) × (all_left old ≡ c ∷ all_left new) × IsOrdered c × Tells used c

-- the used parts that are still to come
abbrev pub parts_left : {m : ℕ} → ChunkIter m → List (List ℕ)
parts_left it = map used_part (all_left it.left)
