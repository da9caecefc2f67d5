-- Changes to a table's bytes.
use Rattle.std.specs.Prelude.{◌≡◌, ℕ, ◌+◌, ◌<◌, ◌≤◌, Option, Some, List, length, slice_get, slice_set, slice_index}
use Rattle.arena_items.specs.declared.item.Item.{Ghosts}
use Rattle.hash_ring.specs.Searches.{far_mark}
use Rattle.hash_ring.specs.Slots.{spot, items, IsPlaceFor, Settled, Closed}
use Rattle.hash_ring.specs.Marks.{home_of, mark_of}
use Rattle.arena_table.specs.Tables.{slots_of, IsTable}

module _ {K V : Type 0} (keys : Ghosts K) (values : Ghosts V) (n : ℕ) (old new : List ℕ) where
  -- Slot i has this mark afterwards, and holds this pair or is free. The other slots and marks are unchanged.
  pub record SetsSlot (i mark : ℕ) (x : Option (K × V)) : Type 0 where
    pub long : length new ≡ length old
    pub slots : slots_of keys values n new ≡ slice_set (slots_of keys values n old) i x
    pub here : slice_index new i ≡ mark
    pub others : (j : ℕ) → j < n → (j ≡ i → ⊥) → slice_index new j ≡ slice_index old j

  -- A pair was put into a slot with its mark, and the pairs there and after it moved on. If the table was in order and
  -- had a free slot, and the slot is the pair's place, the table is in order again, with the pair.
  pub record PutsPair (at mark : ℕ) (x : K × V) : Type 0 where
    pub long : length new ≡ length old
    pub settles : (hash : K × V → ℕ) (d : ℕ) → IsTable keys values hash n old
        → IsPlaceFor (λ p. home_of n (hash p)) n (slots_of keys values n old) (home_of n (hash x)) at d → mark ≡ mark_of (hash x) d
        → length (items (slots_of keys values n old)) < n
        → IsTable keys values hash n new × Settled (slots_of keys values n old) (slots_of keys values n new) x

  -- A slot was freed, and the pairs after it that are away from home moved back. If the table was in order and had a
  -- free slot, and the slot was taken, the table is in order again, without its pair.
  pub record ClosesGap (at : ℕ) : Type 0 where
    pub long : length new ≡ length old
    pub closes : (hash : K × V → ℕ) (x : K × V) → IsTable keys values hash n old → slice_get (slots_of keys values n old) at ≡ Some (Some x)
        → length (items (slots_of keys values n old)) < n
        → IsTable keys values hash n new × Closed (slots_of keys values n old) (slots_of keys values n new) at

  -- If the slot is taken, its value was replaced. Its mark and its key stay.
  pub record ChangesValue (at : ℕ) (value : V) : Type 0 where
    pub long : length new ≡ length old
    pub sets : (x : K × V) → slice_get (slots_of keys values n old) at ≡ Some (Some x)
        → SetsSlot at (slice_index old at) (Some (x.0, value))

  -- If the slot `from` is taken and the mark isn't 0, its pair was written into the slot `to`, with this mark.
  pub record CopiesSlot (from to mark : ℕ) : Type 0 where
    pub long : length new ≡ length old
    pub sets : (x : K × V) → slice_get (slots_of keys values n old) from ≡ Some (Some x) → 0 < mark → SetsSlot to mark (Some x)

-- Among the pairs away from home that follow the slot without a break, none has a far mark.
pub record IsNear (n : ℕ) (bytes : List ℕ) (at : ℕ) : Type 0 where
  pub near : (k : ℕ) → k + 1 < n → ((e : ℕ) → e < k → 32 ≤ slice_index bytes (spot n at (e + 1)))
      → slice_index bytes (spot n at (k + 1)) < far_mark
