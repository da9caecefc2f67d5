-- Copies of maps: the table that is placed, and what it has once all pairs were put.
use Rattle.std.proofs.lemmas.Bool.Decides.{nat_tests}
use Rattle.std.proofs.Common.{◌≡◌, ℕ, zero, suc, ◌+◌, ◌*◌, ◌^◌, ◌<◌, refl, sym, ap, subst, ◌∙◌, arith, mul-div_cancel, zero-mul, length, List, [], ◌∷◌, Option, Some, Ok, Err, Bool, true, false}
use Rattle.std.proofs.Math.Path.{fun_ext}
use Rattle.std.specs.Prelude.{Result, IsPermutation, cond, map, bytes_eq}
use Rattle.std.specs.List.{IsDistinct, flat_map}
use Rattle.std.proofs.lemmas.List.Sorted.{IsPermutation-cons, IsPermutation-sym, IsPermutation-trans}
use Rattle.arena_chunks.specs.Memory.{Memory}
use Rattle.arena_chunks.specs.Source.{View}
use Rattle.arena_chunks.specs.Frame.{Frame}
use Rattle.arena_chunks.proofs.Layers.{frame_reflexive, frame_then}
use Rattle.arena_items.specs.Room.{SamePlaces}
use Rattle.arena_items.specs.declared.room.AllocError.{AllocError}
use Rattle.arena_hash.specs.Changes.{PlacesMap}
use Rattle.arena_hash.specs.Contents.{content_in, Kind as MapTypes}
use Rattle.arena_hash.specs.Finite.{AreOnce, first_of}
use Rattle.arena_hash.specs.Maps.{IsMapIn, pairs_in}
use Rattle.arena_hash.specs.Policy.{table_align, slot_size}
use Rattle.arena_hash.specs.declared.map.HashMap.{HashMap}
use Rattle.arena_clone.specs.Asks.{AsksFor, PlacesAll, refusal}
use Rattle.arena_clone.specs.Kinds.{Kind, of_some, row_of}
use Rattle.arena_clone.specs.MapKind.{pair_of, map_of, table_ask, IsTableFor}
use Rattle.arena_clone.specs.MapCopies.{HoldsCopies, PutsCopies}
use Rattle.arena_clone.specs.Copies.{Copies}
use Rattle.arena_kinds.specs.declared.ids.CloneInSemanticIds.{CloneInSemanticIds}
use Rattle.arena_kinds.proofs.Layers.{same_places, asked_then, block_of, took_asked, all_in_order, one_apart, places_refused}
use Rattle.arena_clone.proofs.FiniteLemmas.{pairs_turned}

-- ---- The table

module _ {K V S : Type 0} (k : MapTypes K V S) (old new : View) where
  -- An empty map for pairs is placed, or refused, as one block that is asked for.
  pub table_placed : (n : ℕ) (result : Result (HashMap K V S) AllocError) → n < 2 ^ 32
      → PlacesMap {X = HashMap K V S} k (λ m. m) old new n result
      → PlacesAll (table_ask k n ∷ []) old new (block_of (λ (m : HashMap K V S). m.table.block) result) (refusal result)
  table_placed n result few places = record {
    asked = asked n result few places;
    apart = one_apart (λ (m : HashMap K V S). m.table.block) result;
    frame = frame result places;
  }
    where
      asked : (n : ℕ) (result : Result (HashMap K V S) AllocError) → n < 2 ^ 32 → PlacesMap {X = HashMap K V S} k (λ m. m) old new n result
          → AsksFor (table_ask k n ∷ []) old new (block_of (λ (m : HashMap K V S). m.table.block) result) (refusal result)
      asked zero (Ok e) few places =
          let none = places.none refl in
          (e.table.block, [], none.1.block, refl, (refl, refl, subst (SamePlaces old) (sym none.0) (same_places old)))
      asked zero (Err err) few places = absurd (places.none refl).1
      asked (suc n) result few places =
          let made = places.made (omega arith) few in (
            made.0,
            made.1,
            took_asked (λ (m : HashMap K V S). m.table.block) (made.0 * slot_size k.keys.SIZE k.values.SIZE)
                (table_align k.keys.ALIGN k.values.ALIGN) old new result made.2 places.err,
          )

      frame : (result : Result (HashMap K V S) AllocError) → PlacesMap {X = HashMap K V S} k (λ m. m) old new n result
          → Frame old.memory new.memory [] (block_of (λ (m : HashMap K V S). m.table.block) result)
      frame (Ok e) places = places.frame
      frame (Err err) places = rw places.err (frame_reflexive old.memory [])

-- An empty map has copies of no pairs.
pub table_empty : {K V S : Type 0} {k : MapTypes K V S} {old new : View} {n : ℕ} {e : HashMap K V S} {source : Memory}
    → PlacesMap {X = HashMap K V S} k (λ m. m) old new n (Ok e) → HoldsCopies k source new.memory e [] [] e
table_empty places = record {
  held = places.held;
  map_is = places.map_is;
  contents = refl;
  len = places.len;
  room = omega arith;
  block = refl;
  hasher = refl;
}

-- ---- A map of copies

-- tables with as many bytes have as many slots
same_slots : (slots other size : ℕ) → slots * (size + 1) ≡ other * (size + 1) → slots ≡ other
same_slots slots other size same = grind (arith, nat_tests, mul-div_cancel)

no_slots : (slots size : ℕ) → slots * (size + 1) ≡ 0 → slots ≡ 0
no_slots slots size none = same_slots slots 0 size (none ∙ sym (zero-mul (size + 1)))

-- The table of a map of copies is the one that was placed for them.
copy_fits : {K V S : Type 0} (k : MapTypes K V S) {source new : Memory} {old mid : View} {xs ys : List (K × V)} {e w : HashMap K V S}
    {n : ℕ} → PlacesMap {X = HashMap K V S} k (λ m. m) old mid n (Ok e) → HoldsCopies k source new e xs ys w → n ≡ length xs
    → IsTableFor w.len w.table.slots
copy_fits k {e} {w} {n} places holds count = grind (arith, nat_tests, same_slots, no_slots)

one_each : {A : Type 0} (xs : List A) → flat_map (λ x. x ∷ []) xs ≡ xs
one_each [] = refl
one_each (x ∷ xs) = ap (λ zs. x ∷ zs) (one_each xs)

module _ {K V S : Type 0} (k : MapTypes K V S) (keys : Kind K) (values : Kind V) (ids : CloneInSemanticIds) (source new : Memory) where
  -- What is found under a content among copies is a copy of what is found among the pairs.
  values_alike : (q : List ℕ) (xs ys : List (K × V))
      → map (λ (p : K × V). content_in k.key new p.0) ys ≡ map (λ (p : K × V). content_in k.key source p.0) xs
      → (row_of (pair_of keys values)).whole new ys ≡ (row_of (pair_of keys values)).by_ids ids ((row_of (pair_of keys values)).whole
      source xs)
      → of_some (λ (p : K × V). values.whole new p.1) (first_of (content_in k.key new) ys q)
      ≡ of_some (values.by_ids ids) (of_some (λ (p : K × V). values.whole source p.1) (first_of (content_in k.key source) xs q))
  values_alike q [] [] contents means = refl
  values_alike q [] (y ∷ ys) contents means = absurd (cc contents)
  values_alike q (x ∷ xs) [] contents means = absurd (cc contents)
  values_alike q (x ∷ xs) (y ∷ ys) contents means =
      let here : content_in k.key new y.0 ≡ content_in k.key source x.0 = cc contents in
      let pair : (pair_of keys values).whole new y ≡ (pair_of keys values).by_ids ids ((pair_of keys values).whole source x) = cc means in
      let more = values_alike q xs ys (cc contents) (cc means) in
      ap (λ c. of_some (λ (p : K × V). values.whole new p.1) (cond (bytes_eq c q) (Some y) (first_of (content_in k.key new) ys q))) here
      ∙ either (bytes_eq (content_in k.key source x.0) q) (ap (λ p. p.1) pair) more
    where
      either : (b : Bool) → values.whole new y.1 ≡ values.by_ids ids (values.whole source x.1)
          → of_some (λ (p : K × V). values.whole new p.1) (first_of (content_in k.key new) ys q)
          ≡ of_some (values.by_ids ids) (of_some (λ (p : K × V). values.whole source p.1) (first_of (content_in k.key source) xs q))
          → of_some (λ (p : K × V). values.whole new p.1) (cond b (Some y) (first_of (content_in k.key new) ys q))
          ≡ of_some (values.by_ids ids) (of_some (λ (p : K × V). values.whole source p.1) (cond b (Some x) (first_of (content_in k.key
          source) xs q)))
      either true here rest = ap Some here
      either false here rest = rest

-- The pairs of a map of copies are the copies, in another order.
pairs_copied : {K V S B : Type 0} {k : MapTypes K V S} {source new : Memory} {xs ys : List (K × V)} {m w : HashMap K V S}
    (f : K × V → List B) → AreOnce (content_in k.key source) xs → HoldsCopies k source new m xs ys w
    → IsPermutation (flat_map f ys) (flat_map f (pairs_in k new w))
pairs_copied {k} {new} {ys} {w} f once holds = pairs_turned (content_in k.key new) f ys (pairs_in k new w)
    (subst (IsDistinct bytes_eq) (sym holds.contents) once) holds.held.once (sym holds.map_is)

module _ {K V S : Type 0} (k : MapTypes K V S) (is_default : S → Type 0) (keys : Kind K) (values : Kind V) (ids : CloneInSemanticIds)
    (source : Memory) {old : View} (h : HashMap K V S) (few : h.len < 2 ^ 32) where
  -- The table is refused,
  pub map_refused : {new : View} {err : AllocError} → PlacesMap {X = HashMap K V S} k (λ m. m) old new h.len (Err err)
      → Copies (map_of k is_default keys values) ids source old new h (Err err)
  map_refused {new} {err} places = record {
    blocks = [];
    placed = places_refused ((row_of (pair_of keys values)).asks source (pairs_in k source h))
        (table_placed k old new h.len (Err err) few places);
    made = tt;
  }

  module _ {mid new : View} {e : HashMap K V S} (places : PlacesMap {X = HashMap K V S} k (λ m. m) old mid h.len (Ok e)) where
    map_placed : (r : Result (HashMap K V S) AllocError) (puts : PutsCopies k keys values ids source mid new e (pairs_in k source h) r)
        → PlacesAll (table_ask k h.len ∷ (row_of (pair_of keys values)).asks source (pairs_in k source h)) old new
        (e.table.block ∷ puts.row.blocks) (refusal r)
    map_placed r puts =
        let own = table_placed _ _ _ _ _ few places in
        record {
          asked = asked_then (table_ask k h.len ∷ []) ((row_of (pair_of keys values)).asks source (pairs_in k source h)) old mid new
              (e.table.block ∷ []) puts.row.blocks (refusal r) own.asked puts.row.asked;
          apart = puts.row.apart;
          frame = frame_then _ _ _ _ _ _ own.frame puts.row.frame;
        }

    -- or a pair,
    pub map_pair_refused : {err : AllocError} → PutsCopies k keys values ids source mid new e (pairs_in k source h) (Err err)
        → Copies (map_of k is_default keys values) ids source old new h (Err err)
    map_pair_refused {err} puts = record { blocks = e.table.block ∷ puts.row.blocks; placed = map_placed (Err err) puts; made = tt }

    -- or all are copied.
    pub map_made : {w : HashMap K V S} → IsMapIn k source h → is_default e.hasher
        → PutsCopies k keys values ids source mid new e (pairs_in k source h) (Ok w)
        → Copies (map_of k is_default keys values) ids source old new h (Ok w)
    map_made {w} held hasher puts =
        let holds = puts.map in
        let row = puts.row.made in
        let ys = puts.ys in
        let zs = pairs_in k new.memory w in
        let deep = (pair_of keys values).deep new.memory in
        let turned = pairs_copied (λ (p : K × V). p ∷ []) held.once holds in
        let same : IsPermutation ys zs = subst (λ us. IsPermutation us zs) (one_each ys)
        (subst (IsPermutation (flat_map (λ p. p ∷ []) ys)) (one_each zs) turned) in
        let blocks = pairs_copied deep held.once holds in
        let all = IsPermutation-cons e.table.block (flat_map deep zs) puts.row.blocks
        (IsPermutation-trans (flat_map deep zs) (flat_map deep ys) puts.row.blocks
        (IsPermutation-sym (flat_map deep ys) (flat_map deep zs) blocks) row.deep) in
        record {
          blocks = e.table.block ∷ puts.row.blocks;
          placed = map_placed (Ok w) puts;
          made = record {
            held = (holds.held, all_in_order ((pair_of keys values).is_held new.memory) ys zs same row.held);
            means = fun_ext (λ q.
                ap (λ (f : List ℕ → Option (K × V)). of_some (λ (p : K × V). values.whole new.memory p.1) (f q)) holds.map_is
                ∙ values_alike k keys values ids source new.memory q (pairs_in k source h) ys holds.contents row.means);
            trim = (
              copy_fits k places holds held.count,
              subst is_default (sym holds.hasher) hasher,
              all_in_order ((pair_of keys values).is_trim new.memory) ys zs same row.trim,
            );
            deep = subst (λ b. IsPermutation (b ∷ flat_map deep zs) (e.table.block ∷ puts.row.blocks)) (sym holds.block) all;
          };
        }
