-- Tables: the bytes of their blocks.
use Rattle.std.specs.Prelude.{IsTrue, ◌≡◌, ℕ, ◌+◌, ◌*◌, ◌<◌, ◌≤◌, ◌^◌, ◌⊎◌, Option, List, take}
use Rattle.std.specs.Prelude.{drop, length, slice_index}
use Rattle.arena_chunks.specs.Memory.{Memory, is_readable}
use Rattle.arena_chunks.specs.Frame.{AreBlocksApart}
use Rattle.arena_store.specs.declared.block.Block.{Block}
use Rattle.arena_items.specs.declared.item.Item.{Ghosts}
use Rattle.arena_items.specs.Values.{bytes_of, IsHeld, elements}
pub use Rattle.hash_ring.specs.Marks.{IsRing, marked, home_of, mark_of}
use Rattle.hash_ring.specs.Policy.{slot_size, table_align}
use Rattle.hash_ring.specs.Slots.{items, Has, IsAway, IsOrdered}
use Rattle.arena_table.specs.Contents.{Key, Kind, content_in}
use Rattle.arena_table.specs.declared.table.Table.{Table}

-- ---- Bytes

-- a pair's bytes: the key's, and then the value's
abbrev pub pair_of : {K V : Type 0} → Ghosts K → Ghosts V → List ℕ → K × V
pair_of keys values bytes = (keys.decoded (take keys.SIZE bytes), values.decoded (drop keys.SIZE bytes))

-- A table of n slots: n marks, and after them the pairs.
unfoldable pub slots_of : {K V : Type 0} → Ghosts K → Ghosts V → ℕ → List ℕ → List (Option (K × V))
slots_of keys values n bytes =
    marked (take n bytes) (elements (keys.SIZE + values.SIZE) (pair_of keys values) n (drop n bytes))

-- the bytes have the length of n slots, and keys and values have sizes that calls accept
pub record IsShape {K V : Type 0} (keys : Ghosts K) (values : Ghosts V) (n : ℕ) (bytes : List ℕ) : Type 0 where
  pub keys_small : keys.SIZE ≤ 2 ^ 24
  pub values_small : values.SIZE ≤ 2 ^ 24
  pub ring : IsRing n
  pub long : length bytes ≡ n * slot_size keys.SIZE values.SIZE

-- The bytes are n slots ordered by distance, given the hash of each pair, and each pair has its mark.
pub record IsTable {K V : Type 0} (keys : Ghosts K) (values : Ghosts V) (hash : K × V → ℕ) (n : ℕ) (bytes : List ℕ) : Type 0 where
  pub ordered : IsOrdered (λ p. home_of n (hash p)) n (slots_of keys values n bytes)
  pub marks : (i d : ℕ) (p : K × V) → IsAway (λ q. home_of n (hash q)) n (slots_of keys values n bytes) i p d
      → slice_index bytes i ≡ mark_of (hash p) d

-- ---- In an arena

-- The handle is well formed: if it has slots, its block has their layout and is readable; otherwise the block is empty.
pub record IsTableHandle {K V : Type 0} (keys : Ghosts K) (values : Ghosts V) (memory : Memory) (t : Table K V) : Type 0 where
  pub place : IsHeld (t.slots * slot_size keys.SIZE values.SIZE) (table_align keys.ALIGN values.ALIGN) memory.state t.block
  pub ring : (t.slots ≡ 0) ⊎ IsRing t.slots

-- a table's slots
abbrev pub slots_in : {K V : Type 0} → Ghosts K → Ghosts V → Memory → Table K V → List (Option (K × V))
slots_in keys values memory t = slots_of keys values t.slots (bytes_of memory t.block)

-- a table's marks
abbrev pub marks_in : {K V : Type 0} → Memory → Table K V → List ℕ
marks_in memory t = take t.slots (bytes_of memory t.block)

-- a table has a free slot
abbrev pub HasFree : {K V : Type 0} → Ghosts K → Ghosts V → Memory → Table K V → Type 0
HasFree keys values memory t = length (items (slots_in keys values memory t)) < t.slots

-- the hash of a pair
abbrev pub pair_hash : {K V S : Type 0} → Kind K V S → Memory → S → K × V → ℕ
pair_hash k memory hasher p = k.hash hasher (content_in k.key memory p.0)

-- A key's text is readable, and apart from a block.
pub record IsTextBeside {K : Type 0} (key : Key K) (memory : Memory) (block : Block) (k : K) : Type 0 where
  pub readable : IsTrue (is_readable memory.state (key.text k))
  pub apart : AreBlocksApart (key.text k) block

-- A table in an arena, ordered by the hashes of its keys' contents. The keys' texts are readable, and apart from its
-- block.
pub record IsTableIn {K V S : Type 0} (k : Kind K V S) (memory : Memory) (hasher : S) (t : Table K V) : Type 0 where
  pub handle : IsTableHandle k.keys k.values memory t
  pub table : IsTable k.keys k.values (pair_hash k memory hasher) t.slots (bytes_of memory t.block)
  pub texts : (x : K × V) → Has (slots_in k.keys k.values memory t) x → IsTextBeside k.key memory t.block x.0

-- A table that is read while this block is written: its own block and its keys' texts are apart from that.
pub record IsReadBeside {K V S : Type 0} (k : Kind K V S) (memory : Memory) (block : Block) (t : Table K V) : Type 0 where
  pub handle : IsTableHandle k.keys k.values memory t
  pub apart : AreBlocksApart t.block block
  pub texts : (x : K × V) → Has (slots_in k.keys k.values memory t) x → IsTextBeside k.key memory block x.0
