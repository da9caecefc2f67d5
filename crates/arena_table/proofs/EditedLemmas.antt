-- Tables in an arena whose bytes are edited.
use Rattle.std.proofs.lemmas.Bool.Decides.{nat_tests}
use Rattle.std.proofs.Common.{arith, ◌≡◌, ℕ, ◌+◌, ◌-◌, ◌<◌, ◌≤◌, inl, inr, sym, ap, subst, ◌∙◌, Some}
use Rattle.std.specs.Prelude.{slice_get, slice_index}
use Rattle.std.proofs.Math.Nat.{mod-lt}
use Rattle.arena_chunks.specs.Memory.{Memory}
use Rattle.arena_chunks.specs.BlockCalls.{EditsBlock}
use Rattle.arena_items.specs.Values.{bytes_of}
use Rattle.hash_ring.specs.Slots.{spot, IsAway, IsPlaceFor, Settled, Closed}
use Rattle.hash_ring.specs.Marks.{home_of, mark_of}
use Rattle.hash_ring.proofs.Order.{away-by, away-of, away-same}
use Rattle.hash_ring.proofs.RingLemmas.{spot-less}
use Rattle.arena_table.specs.Contents.{Kind}
use Rattle.arena_table.specs.Edits.{PutsPair, ClosesGap}
use Rattle.arena_table.specs.Tables.{pair_hash, slots_in, HasFree, IsTableIn, IsTextBeside}
use Rattle.arena_table.specs.declared.table.Table.{Table}
use Rattle.arena_table.proofs.HandleLemmas.{edited-whole, in-edited}

module _ {K V S : Type 0} (k : Kind K V S) (old new : Memory) (hasher : S) (t : Table K V) (held : IsTableIn k old hasher t) where
  -- a place in the ring
  pub place-within : (h at d : ℕ) → 0 < t.slots
      → IsPlaceFor (λ p. home_of t.slots (pair_hash k old hasher p)) t.slots (slots_in k.keys k.values old t) (home_of t.slots h) at d
      → at < t.slots
  place-within h at d some place = grind (arith, nat_tests, spot-less, mod-lt)

  -- A pair is put.
  pub in-put : (h at mark : ℕ) (x : K × V) → HasFree k.keys k.values old t → IsTextBeside k.key old t.block x.0
      → h ≡ pair_hash k old hasher x
      → (d : ℕ) × IsPlaceFor (λ p. home_of t.slots (pair_hash k old hasher p)) t.slots (slots_in k.keys k.values old t)
      (home_of t.slots h) at d × (mark ≡ mark_of h d)
      → EditsBlock old new t.block 0 t.block.size (λ xs ys. PutsPair k.keys k.values t.slots xs ys at mark x)
      → IsTableIn k new hasher t × Settled (slots_in k.keys k.values old t) (slots_in k.keys k.values new t) x
  in-put h at mark x free text is place edits =
      let puts = edited-whole old new t.block (λ xs ys. PutsPair k.keys k.values t.slots xs ys at mark x) (λ xs ys p. p.long) edits in
      let home = subst (λ m. IsPlaceFor (λ p. home_of t.slots (pair_hash k old hasher p)) t.slots (slots_in k.keys k.values old t)
      (home_of t.slots m) at place.0) is place.1 in
      let r = puts.settles (pair_hash k old hasher) place.0 held.table home (place.2 ∙ ap (λ m. mark_of m place.0) is) free in (
        in-edited k old new hasher t held edits.writes.frame edits.writes.state r.0 (λ y h. elim (r.1.only y h) [
          | inl i ↦ held.texts y i
          | inr e ↦ subst (λ p. IsTextBeside k.key old t.block p.0) (sym e) text
        ]),
        r.1,
      )

  -- A gap is closed.
  pub in-close : (at : ℕ) (x : K × V) → HasFree k.keys k.values old t → slice_get (slots_in k.keys k.values old t) at ≡ Some (Some x)
      → EditsBlock old new t.block 0 t.block.size (λ xs ys. ClosesGap k.keys k.values t.slots xs ys at)
      → IsTableIn k new hasher t × Closed (slots_in k.keys k.values old t) (slots_in k.keys k.values new t) at
  in-close at x free there edits =
      let closes = edited-whole _ _ _ _ (λ xs ys p. p.long) edits in
      let r = closes.closes (pair_hash k old hasher) x held.table there free in (
        in-edited _ _ _ _ _ held edits.writes.frame edits.writes.state r.0 (λ y h. let i = r.1.only y h in held.texts y (i.0, i.2)),
        r.1,
      )

-- ---- The pair after a gap

module _ {K V S : Type 0} (k : Kind K V S) (memory : Memory) (hasher : S) (t : Table K V) (held : IsTableIn k memory hasher t)
    (some : 0 < t.slots)
    (from mark : ℕ) (is : mark ≡ slice_index (bytes_of memory t.block) from) (high : 32 ≤ mark) (x : K × V)
    (there : slice_get (slots_in k.keys k.values memory t) from ≡ Some (Some x)) where
  homes : (p : K × V) → home_of t.slots (pair_hash k memory hasher p) < t.slots
  homes p = mod-lt (pair_hash k memory hasher p) some

  -- The pair after a gap is away from its home, and has its mark.
  pub back-away : (d : ℕ) × IsAway (λ p. home_of t.slots (pair_hash k memory hasher p)) t.slots (slots_in k.keys k.values memory t) from x
      (d + 1)
      × (mark ≡ mark_of (pair_hash k memory hasher x) (d + 1))
  back-away =
      let slots = slots_in k.keys k.values memory t in
      let away = away-of (λ p. home_of t.slots (pair_hash k memory hasher p)) t.slots homes slots from x held.table.ordered.long there in
      let marked = is ∙ held.table.marks from away.0 x away.1 in
      let far : away.0 ≡ away.0 - 1 + 1 = omega (arith, marked) in (
        away.0 - 1,
        subst (λ d. IsAway (λ p. home_of t.slots (pair_hash k memory hasher p)) t.slots slots from x d) far away.1,
        marked ∙ ap (mark_of (pair_hash k memory hasher x)) far,
      )

  -- Another distance that leads there is the same.
  pub back-distance : (h e : ℕ) → h ≡ pair_hash k memory hasher x → e < t.slots → from ≡ spot t.slots (home_of t.slots h) e
      → e ≡ back-away.0 + 1
  back-distance h e same less place =
      let slots = slots_in k.keys k.values memory t in
      let a = away-by (pair_hash k memory hasher) t.slots slots from h e x there same less place in
      away-same (λ p. home_of t.slots (pair_hash k memory hasher p)) t.slots homes slots from e (back-away.0 + 1) x x a back-away.1
