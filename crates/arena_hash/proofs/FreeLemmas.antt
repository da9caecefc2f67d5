-- Maps whose slots are all free.
use Rattle.std.proofs.Common.{◌≡◌, replicate, sym, ap, ◌∙◌, arith}
use Rattle.std.proofs.Common.{None}
use Rattle.std.specs.Prelude.{slice_get}
use Rattle.arena_chunks.specs.Memory.{Memory}
use Rattle.hash_ring.specs.Finite.{empty, first_of}
use Rattle.hash_ring.specs.Slots.{items}
use Rattle.hash_ring.proofs.Count.{items-none, none-there}
use Rattle.hash_ring.proofs.Once.{are_once}
use Rattle.arena_table.specs.Contents.{Kind, content_in}
use Rattle.arena_table.specs.Tables.{slots_in, IsTableHandle}
use Rattle.arena_table.proofs.FreeLemmas.{free-table}
use Rattle.arena_hash.specs.Maps.{IsMapIn, map_in}
use Rattle.arena_hash.specs.declared.map.HashMap.{HashMap}

module _ {K V S : Type 0} (k : Kind K V S) (memory : Memory) (m : HashMap K V S)
    (free : slots_in k.keys k.values memory m.table ≡ replicate m.table.slots None) where
  -- Free slots are a map
  pub free-map : IsTableHandle k.keys k.values memory m.table → m.len ≡ 0 → IsMapIn k memory m
  free-map handle none = record {
    handle = handle;
    table = free-table k _ m.table.slots _ free;
    texts = rw (free, items-none m.table.slots) tt;
    apart = rw (free, items-none m.table.slots) tt;
    once = are_once (content_in k.key memory) (slots_in k.keys k.values memory m.table)
        (λ i j x y s t e. absurd (none-there m.table.slots i x (ap (λ xs. slice_get xs i) (sym free) ∙ s)));
    count = rw (free, items-none m.table.slots) none;
    within = omega (arith, none);
  }

  -- of nothing.
  pub free-is : map_in k memory m ≡ empty
  free-is = ap (λ s. first_of (content_in k.key memory) (items s)) free ∙ ap (first_of (content_in k.key memory)) (items-none m.table.slots)
