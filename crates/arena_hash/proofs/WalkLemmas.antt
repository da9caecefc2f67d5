-- Walks over the pairs of a map.
use Rattle.std.proofs.lemmas.Bool.Decides.{nat_tests}
use Rattle.std.proofs.Common.{arith, ◌≡◌, ℕ, ◌^◌, ◌≤◌, ◌⊎◌, List, take, length, sym, ap, ◌∙◌}
use Rattle.arena_chunks.specs.Memory.{Memory}
use Rattle.arena_items.specs.Values.{bytes_of}
use Rattle.hash_ring.specs.Walks.{front_of, AreFree, IsScan, Lists}
use Rattle.hash_ring.specs.declared.scan.Scan.{Scan}
use Rattle.arena_table.specs.Contents.{Kind, content_in}
use Rattle.arena_table.specs.Tables.{IsShape}
use Rattle.arena_table.specs.Walks.{left_in, IsWalk}
use Rattle.arena_table.proofs.WalkLemmas.{walk-shape, walk-start}
use Rattle.arena_hash.specs.Maps.{IsMapIn, map_in, pairs_in}
use Rattle.arena_hash.specs.declared.map.HashMap.{HashMap}

module _ {K V S : Type 0} (k : Kind K V S) (memory : Memory) (m : HashMap K V S) (bytes : List ℕ) (small : k.keys.SIZE ≤ 2 ^ 24)
    (few : k.values.SIZE ≤ 2 ^ 24) (held : IsMapIn k memory m) (is : bytes ≡ bytes_of memory m.table.block) where
  shape : (m.table.slots ≡ 0) ⊎ IsShape k.keys k.values m.table.slots bytes
  shape = walk-shape k.keys k.values memory m.table bytes small few held.handle is

  module _ (s : Scan) (none : AreFree (take m.table.slots bytes) 0 (front_of s)) where
    all : left_in k.keys k.values m.table.slots bytes s ≡ pairs_in k memory m
    all = grind (arith, nat_tests, walk-start, shape)

    -- it is one
    pub map-walk : IsScan m.table.slots (take m.table.slots bytes) s → IsWalk k.keys k.values m.table.slots bytes s m.len
    map-walk scan = record { shape = shape; scan = scan; count = held.count ∙ ap length (sym all) }

    -- and lists the map
    pub map-lists : Lists (content_in k.key memory) (map_in k memory m) (left_in k.keys k.values m.table.slots bytes s)
    map-lists = grind (arith, nat_tests, all)
