-- Maps in an arena, as calls change them.
use Rattle.std.proofs.lemmas.Bool.Decides.{nat_tests}
use Rattle.std.proofs.Common.{◌≡◌, ℕ, ◌+◌, ◌<◌, ◌≤◌, inl, inr, List, [], ◌∷◌, length, set, refl, sym, ap, subst, ◌∙◌, arith, Some, None, Option, IsTrue}
use Rattle.std.proofs.lemmas.Option.{slice_get_within}
use Rattle.std.specs.Prelude.{slice_get}
use Rattle.arena_chunks.specs.Memory.{Memory, is_readable}
use Rattle.arena_chunks.specs.Frame.{Frame, IsApart}
use Rattle.arena_store.specs.declared.block.Block.{Block}
use Rattle.arena_chunks.proofs.Layers.{frame_keeps}
use Rattle.hash_ring.specs.Finite.{Finite, first_of, with_pair, without}
use Rattle.hash_ring.specs.Policy.{limit}
use Rattle.hash_ring.specs.Slots.{items, Has, IsOnce, Lacks, Settled, Closed, Moved}
use Rattle.hash_ring.specs.laws.AgreeLaws.{under-agree}
use Rattle.hash_ring.proofs.Agree.{once-agree}
use Rattle.hash_ring.proofs.Count.{count-set}
use Rattle.hash_ring.proofs.Once.{are_once, is_once}
use Rattle.hash_ring.proofs.Places.{put-cases}
use Rattle.hash_ring.proofs.Under.{has-under, lacks-under, under-moved, under-settled, under-closed, once-value, under-value}
use Rattle.arena_table.specs.Contents.{Kind, content_in}
use Rattle.arena_table.specs.Tables.{slots_in, IsTableIn, IsTextBeside}
use Rattle.arena_hash.specs.Maps.{IsMapIn, map_in, pairs_in}
use Rattle.arena_hash.specs.declared.map.HashMap.{HashMap}
use Rattle.arena_hash.proofs.Beside.{texts-beside, texts-readable, texts-apart}

-- unchanged slots hold the same items
pub moved-none : {X : Type 0} (slots : List (Option X)) → Moved slots slots
moved-none slots = record { count = refl; only = λ x h. h; keeps = λ x h. h; once = λ content once. once }

module _ {K V S : Type 0} (k : Kind K V S) where
  -- the items in the slots of a map, and their contents
  abbrev slots : Memory → HashMap K V S → List (Option (K × V))
  slots memory m = slots_in k.keys k.values memory m.table

  abbrev content : Memory → K × V → List ℕ
  content memory p = content_in k.key memory p.0

  -- A map is a table,
  pub map-table : (memory : Memory) (m : HashMap K V S) → IsMapIn k memory m → IsTableIn k memory m.hasher m.table
  map-table memory m held = record { handle = held.handle; table = held.table; texts = texts-beside k memory m held.texts held.apart }

  -- in which no content occurs twice.
  pub map-once : (memory : Memory) (m : HashMap K V S) → IsMapIn k memory m → IsOnce (content memory) (slots memory m)
  map-once memory m held = is_once (content_in k.key memory) (slots memory m) held.once

  -- What a search finds is stored under its content,
  pub found-under : (memory : Memory) (m : HashMap K V S) (at : ℕ) (p : K × V) (q : List ℕ) → IsMapIn k memory m
      → slice_get (slots memory m) at ≡ Some (Some p) → content memory p ≡ q → map_in k memory m q ≡ Some p
  found-under memory m at p q held there has = has-under (content_in k.key memory) (slots memory m) at p q (map-once memory m held) there
      has

  -- and under a content that it doesn't find nothing is stored.
  pub open-under : (memory : Memory) (m : HashMap K V S) (q : List ℕ) → Lacks (content memory) (slots memory m) q
      → map_in k memory m q ≡ None
  open-under memory m q lacks = lacks-under (content_in k.key memory) (slots memory m) q lacks

  -- A slot that holds an item is one of the table's.
  pub taken-within : (memory : Memory) (m : HashMap K V S) (at : ℕ) (p : K × V) → IsMapIn k memory m
      → slice_get (slots memory m) at ≡ Some (Some p)
      → at < m.table.slots
  taken-within memory m at p held there = omega (arith, slice_get_within (slots memory m) at (Some p) there, held.table.ordered.long)

  -- ---- Calls

  module _ (old new : Memory) (before after : List Block) (frame : Frame old new before after) where
    -- a key whose text is apart from the blocks of a call has the same content
    pub content-stays : (x : K) → IsTrue (is_readable old.state (k.key.text x)) → IsApart (k.key.text x).addr (k.key.text x).size before
        → content_in k.key new x ≡ content_in k.key old x
    content-stays x readable apart = ap (k.key.content x) (frame_keeps old new before after (k.key.text x) frame readable apart).bytes

  -- A text that was readable is apart from a block that was placed since.
  pub text-beside : (old new : Memory) (block : Block) (x : K) → Frame old new [] (block ∷ [])
      → IsTrue (is_readable old.state (k.key.text x))
      → IsTextBeside k.key new block x
  text-beside old new block x frame readable = grind (arith, nat_tests, frame_keeps)

  module _ (old new : Memory) (m w : HashMap K V S) (held : IsMapIn k old m)
      (frame : Frame old new (m.table.block ∷ []) (w.table.block ∷ []))
      (table : IsTableIn k new w.hasher w.table) where
    known : (x : K × V) → Has (slots old m) x → IsTextBeside k.key old m.table.block x.0
    known x h = texts-beside k old m held.texts held.apart x h

    same : (x : K × V) → IsTextBeside k.key old m.table.block x.0 → content new x ≡ content old x
    same x beside = content-stays old new _ _ frame x.0 beside.readable (beside.apart, tt)

    -- a table whose keys' texts were readable before, and apart from the block, is a map
    module _ (knows : (x : K × V) → Has (slots new w) x → IsTextBeside k.key old m.table.block x.0) where
      next-held : IsOnce (content old) (slots new w) → w.len ≡ length (pairs_in k new w) → w.len ≤ limit w.table.slots → IsMapIn k new w
      next-held once count within = grind (arith, nat_tests, texts-readable, texts-apart, are_once, once-agree, same)

      next-is : map_in k new w ≡ first_of (content_in k.key old) (items (slots new w))
      next-is = under-agree (content_in k.key old) (content_in k.key new) (slots new w) (λ x h. same x (knows x h))

    -- ---- A pair was put into a table that has what the map had

    module _ (key : K) (value : V) (beside : IsTextBeside k.key old m.table.block key)
        (lacks : Lacks (content old) (slots old m) (content_in k.key old key)) (mid : List (Option (K × V)))
        (moved : Moved (slots old m) mid)
        (settled : Settled mid (slots new w) (key, value)) where
      put-knows : (x : K × V) → Has (slots new w) x → IsTextBeside k.key old m.table.block x.0
      put-knows x h = elim (settled.only x h) [
        | inl i ↦ known x (moved.only x i)
        | inr e ↦ subst (λ p. IsTextBeside k.key old m.table.block p.0) (sym e) beside
      ]

      mid-once : IsOnce (content old) mid
      mid-once = moved.once (content old) (map-once old m held)

      mid-lacks : Lacks (content old) mid (content_in k.key old key)
      mid-lacks j x s c = let h = moved.only x (j, s) in lacks h.0 x h.1 c

      pub put-held : w.len ≡ m.len + 1 → w.len ≤ limit w.table.slots → IsMapIn k new w
      put-held len within =
          next-held put-knows (settled.once (content old) mid-once mid-lacks) (omega (arith, settled.count, moved.count, held.count, len))
          within

      pub put-is : map_in k new w ≡ with_pair (map_in k old m) (content_in k.key old key) key value
      put-is =
          next-is put-knows
          ∙ under-settled (content_in k.key old) mid (slots new w) key value mid-once mid-lacks settled
          ∙ ap (λ (f : Finite K V). with_pair f (content_in k.key old key) key value)
          (under-moved (content_in k.key old) (slots old m) mid (map-once old m held) moved)

    -- ---- A slot was changed, or freed

    module _ (at : ℕ) (p : K × V) (there : slice_get (slots old m) at ≡ Some (Some p)) where
      -- another value replaced the one that was there
      module _ (value : V) (changed : slots new w ≡ set (slots old m) at (Some (p.0, value))) where
        change-knows : (x : K × V) → Has (slots new w) x → IsTextBeside k.key old m.table.block x.0
        change-knows x h = elim (put-cases (slots old m) at h.0 (Some p) (p.0, value) x there
            (ap (λ s. slice_get s h.0) (sym changed) ∙ h.1)) [
              | inl e ↦ subst (λ q. IsTextBeside k.key old m.table.block q.0) (sym e.1) (known p (at, there))
              | inr e ↦ known x (h.0, e.1)
            ]

        pub change-held : w.len ≡ m.len → w.len ≤ limit w.table.slots → IsMapIn k new w
        change-held len within =
            next-held change-knows
            (subst (λ s. IsOnce (content old) s) (sym changed) (once-value (content_in k.key old) (slots old m) at p.0 p.1 value
            (map-once old m held) there))
            (omega (arith, len, held.count, ap (λ s. length (items s)) changed, count-set (slots old m) at (Some p) (Some (p.0, value)) there))
            within

        pub change-is : (key : K) → map_in k new w ≡ with_pair (map_in k old m) (content old p) key value
        change-is key =
            next-is change-knows
            ∙ ap (λ s. first_of (content_in k.key old) (items s)) changed
            ∙ under-value (content_in k.key old) (slots old m) at p.0 p.1 value (map-once old m held) there key

      -- a gap that was closed
      module _ (closed : Closed (slots old m) (slots new w) at) where
        close-knows : (x : K × V) → Has (slots new w) x → IsTextBeside k.key old m.table.block x.0
        close-knows x h = let o = closed.only x h in known x (o.0, o.2)

        pub close-held : w.len + 1 ≡ m.len → w.len ≤ limit w.table.slots → IsMapIn k new w
        close-held len within =
            next-held close-knows (closed.once (content old) (map-once old m held)) (omega (arith, closed.count, held.count, len)) within

        pub close-is : map_in k new w ≡ without (map_in k old m) (content old p)
        close-is = next-is close-knows ∙ under-closed (content_in k.key old) (slots old m) (slots new w) at p (map-once old m held) there
            closed
