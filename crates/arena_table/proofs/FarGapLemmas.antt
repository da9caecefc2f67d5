-- A gap in a table in an arena is closed a slot at a time.
use Rattle.std.proofs.lemmas.Bool.Decides.{nat_tests}
use Rattle.std.proofs.Common.{◌≡◌, ℕ, ◌+◌, ◌%◌, ◌^◌, ◌<◌, ◌≤◌, inl, inr, List, [], ◌∷◌, Option, add-one, length, set, replicate, sym, ap, subst, ◌∙◌, arith, Some, None, append_assoc}
use Rattle.std.specs.Prelude.{slice_get, slice_index}
use Rattle.std.proofs.Math.Nat.{mod-lt}
use Rattle.std.proofs.lemmas.List.{set_split}
use Rattle.arena_rules.specs.Lists.{splice}
use Rattle.arena_chunks.specs.Memory.{Memory, image}
use Rattle.arena_chunks.specs.BlockCalls.{EditsBlock}
use Rattle.arena_chunks.proofs.Layers.{length-bytes, wrote_part}
use Rattle.arena_items.specs.Values.{bytes_of}
use Rattle.hash_ring.specs.Slots.{spot, items, Has, IsAway, IsOrdered, Closed}
use Rattle.hash_ring.specs.Marks.{home_of, mark_of}
use Rattle.hash_ring.proofs.Agree.{closing-agree}
use Rattle.hash_ring.proofs.Close.{Closing, closing-pull, closing-free}
use Rattle.hash_ring.proofs.Places.{put-cases, free-cases}
use Rattle.hash_ring.proofs.RingLemmas.{spot-before, next-spot}
use Rattle.arena_table.specs.Contents.{Kind}
use Rattle.arena_table.specs.Edits.{SetsSlot, CopiesSlot}
use Rattle.arena_table.specs.Tables.{pair_hash, slots_in, IsTableIn, IsTextBeside}
use Rattle.arena_table.specs.declared.table.Table.{Table}
use Rattle.arena_table.proofs.HandleLemmas.{handle-shape, edited-whole, hash-stays, in-edited}
use Rattle.arena_table.proofs.SlotLemmas.{slot-clear}
use Rattle.arena_table.proofs.TableLemmas.{table-put, table-free}

-- one byte is written
splice-one : (bs : List ℕ) (at y : ℕ) → at < length bs → splice bs at (y ∷ []) ≡ set bs at y
splice-one bs at y inside = grind (arith, nat_tests, append_assoc, add-one, set_split)

module _ {K V S : Type 0} (k : Kind K V S) (old new : Memory) (hasher : S) (t : Table K V) (small : k.keys.SIZE ≤ 2 ^ 24)
    (few : k.values.SIZE ≤ 2 ^ 24)
    (some : 0 < t.slots) (held : IsTableIn k old hasher t) (start : ℕ) (from : List (Option (K × V))) (steps gap next : ℕ)
    (begun : start < t.slots)
    (room : length (items from) < t.slots) (within : gap < t.slots) (is : next ≡ (gap + 1) % t.slots)
    (closing : Closing (λ p. home_of t.slots (pair_hash k old hasher p)) t.slots start from steps (slots_in k.keys k.values old t) gap)
  where
    abbrev home : K × V → ℕ
    home p = home_of t.slots (pair_hash k old hasher p)

    homes : (p : K × V) → home p < t.slots
    homes p = mod-lt (pair_hash k old hasher p) some

    -- the pairs in the slots, before and after
    abbrev slots : List (Option (K × V))
    slots = slots_in k.keys k.values old t

    abbrev after : List (Option (K × V))
    after = slots_in k.keys k.values new t

    next-is : next ≡ spot t.slots gap 1
    next-is = is ∙ next-spot t.slots gap within

    -- The pair after the gap was written into it.
    module _ (x : K × V) (d mark : ℕ) (away : IsAway home t.slots slots next x (d + 1))
        (marked : mark ≡ mark_of (pair_hash k old hasher x) d)
        (edits : EditsBlock old new t.block 0 t.block.size (λ xs ys. CopiesSlot k.keys k.values t.slots xs ys next gap mark)) where
      sets : SetsSlot k.keys k.values t.slots (bytes_of old t.block) (bytes_of new t.block) gap mark (Some x)
      sets =
          let copies = edited-whole _ _ _ _ (λ xs ys p. p.long) edits in
          copies.sets x away.there (omega (arith, marked))

      on : Closing home t.slots start from (steps + 1) after next
      on =
          let a = subst (λ p. IsAway home t.slots slots p x (d + 1)) next-is away in
          let c = closing-pull home t.slots homes start from steps slots gap begun closing room x d a in
          subst (λ p. Closing home t.slots start from (steps + 1) after p) (sym next-is)
          (subst (λ q. Closing home t.slots start from (steps + 1) q (spot t.slots gap 1)) (sym sets.slots) c)

      texts : (y : K × V) → Has after y → IsTextBeside k.key old t.block y.0
      texts y h = elim (put-cases slots gap h.0 (Some closing.stale) x y closing.there
          (ap (λ s. slice_get s h.0) (sym sets.slots) ∙ h.1)) [
            | inl i ↦ subst (λ p. IsTextBeside k.key old t.block p.0) (sym i.1) (held.texts x (next, away.there))
            | inr i ↦ held.texts y (h.0, i.1)
          ]

      pub far-held : IsTableIn k new hasher t
      far-held =
          let low : d < t.slots = omega (arith, away.less) in
          let here : gap ≡ spot t.slots (home x) d =
          spot-before t.slots gap (home x) d within (homes x) low (sym next-is ∙ away.place) in
          let ordered = subst (λ q. IsOrdered home t.slots q) sets.slots on.ordered in
          in-edited _ _ _ _ _ held edits.writes.frame edits.writes.state
          (table-put _ _ _ _ some _ _ (handle-shape _ _ _ _ small few held.handle some) held.table _ x d _ within low here marked sets
          ordered) texts

      pub far-closing : Closing (λ p. home_of t.slots (pair_hash k new hasher p)) t.slots start from (steps + 1) after next
      far-closing =
          closing-agree _ _ _ _ _ _ _ _ (λ y h. ap (home_of t.slots) (hash-stays k _ _ hasher _ edits.writes.frame y (texts _ h))) on

    -- No pair moves back from after the gap: its mark was cleared.
    module _ (low : slice_index (bytes_of old t.block) next < 32)
        (edits : EditsBlock old new t.block gap 1 (λ xs ys. ys ≡ replicate (length xs) 0)) where
      cleared : SetsSlot k.keys k.values t.slots (bytes_of old t.block) (bytes_of new t.block) gap 0 None
      cleared =
          let shape = handle-shape k.keys k.values old t small few held.handle some in
          let inside : gap < length (bytes_of old t.block) = omega (arith, shape.long, within) in
          let sized : t.block.size ≡ length (bytes_of old t.block) = sym (length-bytes (image old) t.block.addr t.block.size) in
          let one : edits.list ≡ 0 ∷ [] = edits.related ∙ ap (λ n. replicate n 0) (length-bytes (image old) (t.block.addr + gap) 1) in
          let fits : gap + length edits.list ≤ t.block.size = omega (arith, ap length one, inside, sized) in
          let written = wrote_part old new t.block gap edits.list edits.writes fits in
          let is_set : bytes_of new t.block ≡ set (bytes_of old t.block) gap 0 =
          written ∙ ap (λ l. splice (bytes_of old t.block) gap l) one ∙ splice-one (bytes_of old t.block) gap 0 inside in
          subst (λ ys. SetsSlot k.keys k.values t.slots (bytes_of old t.block) ys gap 0 None) (sym is_set)
          (slot-clear k.keys k.values t.slots (bytes_of old t.block) shape gap within)

      done : IsOrdered home t.slots (set slots gap None) × Closed from (set slots gap None) start
      done = closing-free home t.slots homes start from steps slots gap begun closing (λ y e a.
          let a' = subst (λ p. IsAway home t.slots slots p y e) (sym next-is) a in
          omega (arith, held.table.marks next e y a', low))

      pub far-freed : IsTableIn k new hasher t
      far-freed =
          in-edited k old new hasher t held edits.writes.frame edits.writes.state
          (table-free k.keys k.values (pair_hash k old hasher) t.slots some (bytes_of old t.block) (bytes_of new t.block)
          (handle-shape k.keys k.values old t small few held.handle some) held.table gap within cleared done.0)
          (λ y h. held.texts y (
            h.0,
            (free-cases slots gap h.0 (Some closing.stale) y closing.there
                (ap (λ s. slice_get s h.0) (sym cleared.slots) ∙ h.1)).1,
          ))

      pub far-closed : Closed from after start
      far-closed = subst (λ q. Closed from q start) (sym cleared.slots) done.1
