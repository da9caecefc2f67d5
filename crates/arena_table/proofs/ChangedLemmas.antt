-- A table in an arena with a value that was replaced.
use Rattle.std.proofs.Common.{◌≡◌, ℕ, ◌^◌, ◌<◌, ◌≤◌, inl, inr, set, refl, sym, ap, subst, ◌∙◌, Some}
use Rattle.std.specs.Prelude.{slice_get, slice_index}
use Rattle.arena_chunks.specs.Memory.{Memory}
use Rattle.arena_chunks.specs.BlockCalls.{EditsBlock}
use Rattle.arena_items.specs.Values.{bytes_of}
use Rattle.hash_ring.specs.Slots.{Has}
use Rattle.hash_ring.specs.Marks.{home_of}
use Rattle.std.proofs.Math.Nat.{mod-lt}
use Rattle.hash_ring.proofs.Order.{away-of, ordered-swap}
use Rattle.hash_ring.proofs.Places.{put-cases}
use Rattle.arena_table.specs.Contents.{Kind}
use Rattle.arena_table.specs.Edits.{ChangesValue}
use Rattle.arena_table.specs.Tables.{pair_hash, slots_in, IsShape, IsTable, IsTableIn, IsTextBeside}
use Rattle.arena_table.specs.declared.table.Table.{Table}
use Rattle.arena_table.proofs.HandleLemmas.{edited-whole, handle-shape, in-edited}
use Rattle.arena_table.proofs.SlotLemmas.{slot-within-long}
use Rattle.arena_table.proofs.TableLemmas.{table-put}

module _ {K V S : Type 0} (k : Kind K V S) (old new : Memory) (hasher : S) (t : Table K V) (keys_small : k.keys.SIZE ≤ 2 ^ 24)
    (values_small : k.values.SIZE ≤ 2 ^ 24) (held : IsTableIn k old hasher t) (some : 0 < t.slots) (at : ℕ) (value : V) (x : K × V)
    (there : slice_get (slots_in k.keys k.values old t) at ≡ Some (Some x))
    (edits : EditsBlock old new t.block 0 t.block.size (λ before after. ChangesValue k.keys k.values t.slots before after at value)) where
  abbrev hash : K × V → ℕ
  hash p = pair_hash k old hasher p

  homes : (p : K × V) → home_of t.slots (hash p) < t.slots
  homes p = mod-lt (hash p) some

  shape : IsShape k.keys k.values t.slots (bytes_of old t.block)
  shape = handle-shape k.keys k.values old t keys_small values_small held.handle some

  changes : ChangesValue k.keys k.values t.slots (bytes_of old t.block) (bytes_of new t.block) at value
  changes = edited-whole _ _ _ _ (λ xs ys c. c.long) edits

  -- the slots then
  pub changed-slots : slots_in k.keys k.values new t ≡ set (slots_in k.keys k.values old t) at (Some (x.0, value))
  changed-slots = (changes.sets x there).slots

  table : IsTable k.keys k.values hash t.slots (bytes_of new t.block)
  table =
      let away = away-of (λ p. home_of t.slots (hash p)) t.slots homes (slots_in k.keys k.values old t) at x held.table.ordered.long
      there in
      table-put k.keys k.values hash t.slots some (bytes_of old t.block) (bytes_of new t.block) shape held.table at (x.0, value) away.0
      (slice_index (bytes_of old t.block) at) (slot-within-long k.keys k.values t.slots (bytes_of old t.block) shape at x there) away.1.less
      away.1.place (held.table.marks at away.0 x away.1) (changes.sets x there)
      (ordered-swap (λ p. home_of t.slots (hash p)) t.slots homes (slots_in k.keys k.values old t) at x (x.0, value) there refl
      held.table.ordered)

  -- and the table
  pub changed-table : IsTableIn k new hasher t
  changed-table = in-edited k old new hasher t held edits.writes.frame edits.writes.state table knows
    where
      knows : (y : K × V) → Has (slots_in k.keys k.values new t) y → IsTextBeside k.key old t.block y.0
      knows y h = elim (put-cases (slots_in k.keys k.values old t) at h.0 (Some x) (x.0, value) y there
          (ap (λ s. slice_get s h.0) (sym changed-slots) ∙ h.1)) [
            | inl e ↦ subst (λ q. IsTextBeside k.key old t.block q.0) (sym e.1) (held.texts x (at, there))
            | inr e ↦ held.texts y (h.0, e.1)
          ]
