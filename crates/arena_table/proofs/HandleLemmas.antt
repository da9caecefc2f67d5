-- Tables in an arena.
use Rattle.std.proofs.lemmas.Bool.Decides.{nat_tests}
use Rattle.std.proofs.Common.{◌≡◌, ℕ, ◌+◌, Some, List, [], ◌∷◌, sym, ap, subst, ◌^◌, ◌<◌, ◌≤◌, length, ◌∙◌, arith}
use Rattle.std.proofs.Math.Nat.{mod-lt}
use Rattle.std.proofs.lemmas.Option.{slice_get_within}
use Rattle.arena_chunks.specs.Memory.{Memory, image, bytes_from}
use Rattle.arena_chunks.specs.BlockCalls.{EditsBlock}
use Rattle.arena_chunks.specs.Frame.{Frame, Stays}
use Rattle.arena_store.specs.declared.block.Block.{Block}
use Rattle.arena_chunks.proofs.Layers.{length-bytes, wrote_whole, frame_keeps}
use Rattle.hash_ring.specs.Slots.{Has}
use Rattle.hash_ring.specs.laws.AgreeLaws.{ordered-agree, away-agree}
use Rattle.arena_items.specs.declared.item.Item.{Ghosts}
use Rattle.arena_items.specs.Values.{bytes_of}
use Rattle.hash_ring.specs.Marks.{home_of, mark_of}
use Rattle.hash_ring.proofs.Passing.{AreMarked}
use Rattle.arena_table.specs.Tables.{pair_hash, slots_of, slots_in, IsShape, IsTable, IsTableHandle, IsTableIn, IsTextBeside}
use Rattle.arena_table.specs.Contents.{Kind}
use Rattle.arena_table.proofs.SlotLemmas.{slot-taken}
use Rattle.arena_table.proofs.TableLemmas.{table-marked}
use Rattle.std.specs.Prelude.{slice_get, slice_index}
use Rattle.arena_table.specs.declared.table.Table.{Table}

-- the block of a table with slots has its marks and pairs
pub handle-shape : {K V : Type 0} (keys : Ghosts K) (values : Ghosts V) (memory : Memory) (t : Table K V) → keys.SIZE ≤ 2 ^ 24
    → values.SIZE ≤ 2 ^ 24
    → IsTableHandle keys values memory t → 0 < t.slots → IsShape keys values t.slots (bytes_of memory t.block)
handle-shape keys values memory t small few handle some = grind (arith, nat_tests, length-bytes)

-- the slots of a table in an arena have their marks
pub in-marked : {K V S : Type 0} (k : Kind K V S) (memory : Memory) (hasher : S) (t : Table K V) → k.keys.SIZE ≤ 2 ^ 24
    → k.values.SIZE ≤ 2 ^ 24
    → (some : 0 < t.slots) → IsTableIn k memory hasher t
    → AreMarked (pair_hash k memory hasher) t.slots some (slots_in k.keys k.values memory t) (λ i. slice_index (bytes_of memory t.block) i)
in-marked k memory hasher t small few some held =
    table-marked _ _ _ _ some _ (handle-shape _ _ _ _ small few held.handle some) held.table

module _ {K V S : Type 0} {k : Kind K V S} {memory : Memory} {hasher : S} {t : Table K V} (held : IsTableIn k memory hasher t) where
  -- homes are slots,
  pub held-homes : 0 < t.slots → (p : K × V) → home_of t.slots (pair_hash k memory hasher p) < t.slots
  held-homes some p = mod-lt (pair_hash k memory hasher p) some

  -- and so is the place of a pair
  pub held-within : (i : ℕ) (x : K × V) → slice_get (slots_in k.keys k.values memory t) i ≡ Some (Some x) → i < t.slots
  held-within i x there = grind (arith, nat_tests, slice_get_within)

  -- A slot that has a mark holds a pair.
  pub held-taken : k.keys.SIZE ≤ 2 ^ 24 → k.values.SIZE ≤ 2 ^ 24 → (i : ℕ) → i < t.slots → 0 < slice_index (bytes_of memory t.block) i
      → (x : K × V) × (slice_get (slots_in k.keys k.values memory t) i ≡ Some (Some x))
  held-taken small few i within marked =
      slot-taken k.keys k.values t.slots _ (handle-shape _ _ _ _ small few held.handle (omega arith)) i within marked

-- ---- Blocks that are changed

-- A change of a whole block's bytes that keeps their number.
pub edited-whole : (old new : Memory) (b : Block) (R : List ℕ → List ℕ → Type 0) → ((xs ys : List ℕ) → R xs ys → length ys ≡ length xs)
    → EditsBlock old new b 0 b.size R → R (bytes_of old b) (bytes_of new b)
edited-whole old new b R keeps edits =
    let first : b.addr + 0 ≡ b.addr = omega arith in
    let related : R (bytes_of old b) edits.list = subst (λ p. R (bytes_from (image old) p b.size) edits.list) first edits.related in
    let sized = keeps (bytes_of old b) edits.list related ∙ length-bytes (image old) b.addr b.size in
    subst (R (bytes_of old b)) (sym (wrote_whole old new b edits.list edits.writes sized)) related

-- the bytes that such a change is given
pub given-whole : (memory : Memory) (b : Block) (P : List ℕ → Type 0) → P (bytes_of memory b)
    → P (bytes_from (image memory) (b.addr + 0) b.size)
given-whole memory b P h = let first : b.addr ≡ b.addr + 0 = omega arith in subst (λ p. P (bytes_from (image memory) p b.size)) first h

-- a table by one hash is a table by another that is the same for its pairs
pub table-agree : {K V : Type 0} (keys : Ghosts K) (values : Ghosts V) (one other : K × V → ℕ) (n : ℕ) (bytes : List ℕ)
    → ((x : K × V) → Has (slots_of keys values n bytes) x → other x ≡ one x) → IsTable keys values one n bytes
    → IsTable keys values other n bytes
table-agree keys values one other n bytes same table = record {
  ordered = ordered-agree _ (λ p. home_of n (other p)) _ _ (λ x h. ap (home_of n) (same x h)) table.ordered;
  marks = λ i d x a.
      let back = away-agree _ (λ p. home_of n (one p)) _ _ (λ y h. ap (home_of n) (sym (same y h))) _ _ _ a in
      table.marks i d x back ∙ ap (λ h. mark_of h d) (sym (same x (i, a.there)));
}

-- a key whose text is apart from a block that was changed has the same hash
pub hash-stays : {K V S : Type 0} (k : Kind K V S) (old new : Memory) (hasher : S) (block : Block)
    → Frame old new (block ∷ []) (block ∷ []) → (x : K × V)
    → IsTextBeside k.key old block x.0 → pair_hash k new hasher x ≡ pair_hash k old hasher x
hash-stays k old new hasher block frame x text =
    ap (λ bs. k.hash hasher (k.key.content x.0 bs)) (frame_keeps _ _ _ _ (k.key.text x.0) frame text.readable (text.apart, tt)).bytes

-- A table whose block was changed: its keys' texts are unchanged.
pub in-edited : {K V S : Type 0} (k : Kind K V S) (old new : Memory) (hasher : S) (t : Table K V) → IsTableIn k old hasher t
    → Frame old new (t.block ∷ []) (t.block ∷ []) → new.state ≡ old.state
    → IsTable k.keys k.values (pair_hash k old hasher) t.slots (bytes_of new t.block)
    → ((x : K × V) → Has (slots_in k.keys k.values new t) x → IsTextBeside k.key old t.block x.0) → IsTableIn k new hasher t
in-edited {K} {V} k old new hasher t held frame state table texts = record {
  handle = record {
    place = rw state held.handle.place;
    ring = held.handle.ring;
  };
  table = table-agree _ _ _ (pair_hash k new hasher) _ _ (λ x h. hash-stays k _ _ hasher _ frame x (texts x h)) table;
  texts = λ x h. record { readable = (stays x h).readable; apart = (stays x h).apart.0 };
}
  where
    stays : (x : K × V) → Has (slots_in k.keys k.values new t) x → Stays old new (t.block ∷ []) (k.key.text x.0)
    stays x h = frame_keeps old new (t.block ∷ []) (t.block ∷ []) (k.key.text x.0) frame (texts x h).readable ((texts x h).apart, tt)

-- for automatic proof
pub ruleset handle_laws = (handle-shape, held-within)
