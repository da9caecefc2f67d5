-- Maps in an arena, and what they mean.
use Rattle.std.specs.Prelude.{◌≡◌, ◌≤◌, ℕ, List, [], ◌∷◌, map, length}
use Rattle.arena_chunks.specs.Memory.{Memory}
use Rattle.arena_chunks.specs.Frame.{AreAllApart}
use Rattle.arena_store.specs.declared.block.Block.{Block}
use Rattle.arena_items.specs.Footprint.{AreReadable}
use Rattle.arena_items.specs.Values.{bytes_of}
use Rattle.hash_ring.specs.Finite.{Finite, first_of, AreOnce}
use Rattle.hash_ring.specs.Policy.{limit}
use Rattle.hash_ring.specs.Searches.{Ends}
use Rattle.hash_ring.specs.Slots.{items}
use Rattle.hash_ring.specs.Marks.{home_of}
use Rattle.arena_table.specs.Contents.{Kind, content_in}
use Rattle.arena_table.specs.Tables.{slots_in, pair_hash, IsTable, IsTableHandle}
use Rattle.arena_hash.specs.declared.map.HashMap.{HashMap}
use Rattle.arena_hash.specs.declared.map.Look.{Look}

-- the pairs of a map, in the order of its slots
abbrev pub pairs_in : {K V S : Type 0} → Kind K V S → Memory → HashMap K V S → List (K × V)
pairs_in k memory m = items (slots_in k.keys k.values memory m.table)

-- The map that a handle stands for in an arena: the pair of each content.
abbrev pub map_in : {K V S : Type 0} → Kind K V S → Memory → HashMap K V S → Finite K V
map_in k memory m = first_of (content_in k.key memory) (pairs_in k memory m)

-- the blocks of the keys' texts, and all blocks that the map reads
abbrev pub texts_in : {K V S : Type 0} → Kind K V S → Memory → HashMap K V S → List Block
texts_in k memory m = map (λ p. k.key.text p.0) (pairs_in k memory m)

abbrev pub footprint : {K V S : Type 0} → Kind K V S → Memory → HashMap K V S → List Block
footprint k memory m = m.table.block ∷ texts_in k memory m

-- The handle is well formed and stands for a map: its block is a table with `len` pairs, at most the limit, whose texts
-- are readable and apart from it, and no two pairs have the same content.
pub record IsMapIn {K V S : Type 0} (k : Kind K V S) (memory : Memory) (m : HashMap K V S) : Type 0 where
  pub handle : IsTableHandle k.keys k.values memory m.table
  pub table : IsTable k.keys k.values (pair_hash k memory m.hasher) m.table.slots (bytes_of memory m.table.block)
  pub texts : AreReadable memory.state (texts_in k memory m)
  pub apart : AreAllApart (texts_in k memory m) (m.table.block ∷ [])
  pub once : AreOnce (content_in k.key memory) (pairs_in k memory m)
  pub count : m.len ≡ length (pairs_in k memory m)
  pub within : m.len ≤ limit m.table.slots

-- A map's search for a content ended here: in the slot of the key that has it, or where such a key would go.
pub record IsLookIn {K V S : Type 0} (k : Kind K V S) (memory : Memory) (m : HashMap K V S) (q : List ℕ) (look : Look) : Type 0 where
  pub hash : look.hash ≡ k.hash m.hasher q
  pub ends : Ends (λ p. home_of m.table.slots (pair_hash k memory m.hasher p)) m.table.slots
      (slots_in k.keys k.values memory m.table) (λ p. content_in k.key memory p.0) q look.hash look.spot

-- After a call with these new blocks the map is held, has the same footprint and the same meaning, its footprint is
-- apart from the call's blocks, and searches of it end where they did.
pub record StaysMap {K V S : Type 0} (k : Kind K V S) (old new : Memory) (after : List Block) (m : HashMap K V S) : Type 0 where
  pub held : IsMapIn k new m
  pub blocks : footprint k new m ≡ footprint k old m
  pub means : map_in k new m ≡ map_in k old m
  pub apart : AreAllApart (footprint k new m) after
  pub looks : (q : List ℕ) (look : Look) → IsLookIn k old m q look → IsLookIn k new m q look
