use Rattle.std.proofs.Common.{◌≡◌, ℕ, ◌<◌, length}
use Rattle.hash_ring.specs.Slots.{items, IsPlaceFor}
use Rattle.hash_ring.specs.Marks.{home_of, mark_of}
use Rattle.arena_table.specs.Tables.{slots_of, IsShape, IsTable}
use Rattle.arena_table.proofs.PutLemmas.{Putting}
use Rattle.arena_table.proofs.put.put_at.Given as goal

abbrev pub invariant-slots : goal.invariant-slots
invariant-slots g l = record {
  shape : IsShape g.K.Item g.V.Item l.slots l.bytes;
  within : l.i < l.slots;
  long : length l.bytes ≡ length l.fn.bytes;
  walk : (hash : g.row.K.Denot × g.row.V.Denot → ℕ) (d : ℕ) → IsTable g.K.Item g.V.Item hash l.slots l.fn.bytes
      → IsPlaceFor (λ p. home_of l.slots (hash p)) l.slots (slots_of g.K.Item g.V.Item l.slots l.fn.bytes)
      (home_of l.slots (hash (l.fn.key, l.fn.value))) l.fn.at d
      → l.fn.mark ≡ mark_of (hash (l.fn.key, l.fn.value)) d → length (items (slots_of g.K.Item g.V.Item l.slots l.fn.bytes)) < l.slots
      → Putting g.K.Item g.V.Item hash l.slots l.fn.at l.fn.bytes (l.fn.key, l.fn.value) l.counter l.bytes (l.key, l.value) l.i l.carried;
}
