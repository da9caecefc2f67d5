-- Copies of maps whose keys and values name no block, with hashers that all hash alike: the bytes of a table, copied
-- elsewhere, are the table of a copy.
use Rattle.std.proofs.lemmas.Bool.Decides.{nat_tests}
use Rattle.std.proofs.Common.{◌≡◌, ℕ, inl, inr, ◌*◌, ◌<◌, ◌≤◌, ◌⊎◌, refl, sym, ap, subst, ◌∙◌, arith, List, [], ◌∷◌, Option, Some, None, Ok, Err, length}
use Rattle.std.proofs.Math.Path.{fun_ext}
use Rattle.std.proofs.lemmas.Bool.{eq-eqb, or_left}
use Rattle.std.proofs.lemmas.List.Sorted.{IsPermutation-cons}
use Rattle.std.specs.Prelude.{Result, map}
use Rattle.arena_chunks.specs.Memory.{Memory}
use Rattle.arena_chunks.specs.Source.{View}
use Rattle.arena_chunks.specs.Frame.{AreAllApart}
use Rattle.arena_chunks.specs.BlockCalls.{PlacesBlock}
use Rattle.arena_store.specs.declared.block.Block.{Block}
use Rattle.arena_items.specs.Footprint.{AreReadable}
use Rattle.arena_items.specs.Layout.{IsAlign, IsItemLayout}
use Rattle.arena_items.specs.laws.LayoutLaws.{plain_8, pair_layout}
use Rattle.arena_items.specs.Room.{RoomAnswer}
use Rattle.arena_items.specs.Values.{bytes_of, IsHeld}
use Rattle.arena_items.specs.declared.room.AllocError.{AllocError}
use Rattle.arena_hash.specs.Contents.{content_in, IsFixed, Kind as MapTypes}
use Rattle.arena_hash.specs.Finite.{AreOnce, first_of}
use Rattle.arena_hash.specs.Maps.{IsMapIn, map_in, pairs_in}
use Rattle.arena_hash.specs.Policy.{slot_size, table_align, limit, IsSlotsFor}
use Rattle.arena_hash.specs.Slots.{items}
use Rattle.arena_hash.specs.Tables.{slots_of, IsTable, IsRing}
use Rattle.arena_hash.specs.declared.map.HashMap.{HashMap}
use Rattle.arena_clone.specs.Asks.{PlacesAll, refusal}
use Rattle.arena_clone.specs.Kinds.{Kind, of_some, row_of}
use Rattle.arena_clone.specs.MapKind.{KeepsContent, pair_of, map_of, table_ask, IsTableFor}
use Rattle.arena_clone.specs.Copies.{IsFlat, IsMade, Copies}
use Rattle.arena_clone.specs.FlatLaws.{row_flat, both_flat}
use Rattle.arena_kinds.specs.declared.ids.CloneInSemanticIds.{CloneInSemanticIds}
use Rattle.arena_kinds.proofs.Layers.{block_of, places_one}
use Rattle.arena_clone.proofs.FlatLemmas.{row_made}

-- ---- The block of a table

-- the alignment of a table is one that a type may have
pub table_is_align : (k v ka va : ℕ) → IsItemLayout k ka → IsItemLayout v va → IsAlign (table_align ka va)
table_is_align k v ka va keys values = (pair_layout 8 8 _ _ plain_8 (pair_layout k ka v va keys values)).is_align

-- A table of which more than a quarter is taken is that of a new map for its pairs.
full_fits : (slots len : ℕ) → (slots ≡ 0) ⊎ IsRing slots → len ≤ limit slots → slots < 4 * len → IsTableFor len slots
full_fits slots len ring within full = (
  (λ none. absurd (omega (arith, none, full))),
  (λ some. elim ring [
    | inl none ↦ absurd (omega (arith, some, none, within))
    | inr is ↦ (is.0, omega (arith, is.1, within), omega (arith, some, full))
  ]),
)

module _ {K V S : Type 0} (k : MapTypes K V S) (old new : View) where
  -- Such a table's block is what a copy of its pairs asks for.
  table_asked : {X : Type 0} (f : X → Block) (result : Result X AllocError) (slots len : ℕ) → 0 < len → IsSlotsFor len slots
      → RoomAnswer f result (PlacesBlock old new (slots * slot_size k.keys.SIZE k.values.SIZE) (table_align k.keys.ALIGN k.values.ALIGN))
      → PlacesAll (table_ask k len ∷ []) old new (block_of f result) (refusal result)
  table_asked f result slots len some are placed = grind (arith, nat_tests, block_of, places_one)

-- ---- What is in it

-- the map with another block for its table, and another hasher
abbrev pub in_block : {K V S : Type 0} → HashMap K V S → Block → S → HashMap K V S
in_block h b s = record { table = record { block = b; slots = h.table.slots; of = h.table.of }; len = h.len; hasher = s }

module _ {K V S : Type 0} (k : MapTypes K V S) (is_default : S → Type 0) (keys : Kind K) (values : Kind V)
    (keeps : KeepsContent k.key keys) (ids : CloneInSemanticIds) (flat : IsFlat keys ids) (other : IsFlat values ids)
    (fixed : IsFixed k.hash) where
  pairs_flat : IsFlat (pair_of keys values) ids
  pairs_flat = both_flat (λ p. p.0) (λ p. p.1) flat other

  -- A key that names no block has no text,
  no_text : (m : Memory) (key : K) → (k.key.text key).size ≡ 0
  no_text m key = elim (keeps.text m key) [
    | inl none ↦ none
    | inr found ↦ (let none : length (keys.deep m key) ≡ 0 = ap length (flat.deep m key) in absurd (omega (arith, none, found.1)))
  ]

  texts_read : (m : Memory) (ps : List (K × V)) → AreReadable m.state (map (λ (p : K × V). k.key.text p.0) ps)
  texts_read m [] = tt
  texts_read m (p ∷ ps) = (or_left _ _ (eq-eqb _ _ (no_text m p.0)), texts_read m ps)

  texts_apart : (m : Memory) (b : Block) (ps : List (K × V)) → AreAllApart (map (λ (p : K × V). k.key.text p.0) ps) (b ∷ [])
  texts_apart m b [] = tt
  texts_apart m b (p ∷ ps) = ((λ some filled. absurd (omega (arith, no_text m p.0, some)), tt), texts_apart m b ps)

  -- and the same content everywhere.
  contents_same : (a c : Memory) → content_in k.key a ≡ content_in k.key c
  contents_same a c = fun_ext (λ key. sym (keeps.same ids a c key key (flat.alike a c key)))

  module _ (a c : Memory) (h : HashMap K V S) (b : Block) (s : S) (same : bytes_of a h.table.block ≡ bytes_of c b)
    where
      pairs_same : pairs_in k a h ≡ pairs_in k c (in_block h b s)
      pairs_same = ap (λ bytes. items (slots_of k.keys k.values h.table.slots bytes)) same

      -- The bytes of the table elsewhere are a map,
      block_held : IsMapIn k a h
          → IsHeld (h.table.slots * slot_size k.keys.SIZE k.values.SIZE) (table_align k.keys.ALIGN k.values.ALIGN) c.state b
          → IsMapIn k c (in_block h b s)
      block_held is place = record {
        handle = record { place = place; ring = is.handle.ring };
        table = subst (IsTable k.keys k.values (λ p. k.hash s (content_in k.key c p.0)) h.table.slots) same
            (subst (λ (f : K → List ℕ). IsTable k.keys k.values (λ p. k.hash s (f p.0)) h.table.slots (bytes_of a h.table.block))
            (contents_same a c)
            (subst (λ (hash : List ℕ → ℕ). IsTable k.keys k.values (λ p. hash (content_in k.key a p.0)) h.table.slots
            (bytes_of a h.table.block)) (fun_ext (fixed h.hasher s)) is.table));
        texts = texts_read c (pairs_in k c (in_block h b s));
        apart = texts_apart c b (pairs_in k c (in_block h b s));
        once = subst (AreOnce (content_in k.key c)) pairs_same
            (subst (λ (f : K → List ℕ). AreOnce f (pairs_in k a h)) (contents_same a c) is.once);
        count = is.count ∙ ap length pairs_same;
        within = is.within;
      }

      -- the same one,
      map_same : map_in k a h ≡ map_in k c (in_block h b s)
      map_same = λ i. first_of (contents_same a c i) (pairs_same i)

      -- and a copy.
      block_made : h.table.slots < 4 * h.len → is_default s → IsMapIn k a h
          → IsHeld (h.table.slots * slot_size k.keys.SIZE k.values.SIZE) (table_align k.keys.ALIGN k.values.ALIGN) c.state b
          → IsMade (map_of k is_default keys values)
          ((map_of k is_default keys values).by_ids ids ((map_of k is_default keys values).whole a h)) c (b ∷ []) (in_block h b s)
      block_made full default is place =
          let row = row_made (pair_of keys values) ids pairs_flat a c (pairs_in k c (in_block h b s)) in
          record {
            held = (block_held is place, row.held);
            means = fun_ext (λ q. ap (λ (f : List ℕ → Option (K × V)). of_some (λ (p : K × V). values.whole c p.1) (f q)) (sym map_same)
                ∙ alike (map_in k a h q));
            trim = (full_fits h.table.slots h.len is.handle.ring is.within full, default, row.trim);
            deep = IsPermutation-cons b ((row_of (pair_of keys values)).deep c (pairs_in k c (in_block h b s))) [] row.deep;
          }
        where
          alike : (o : Option (K × V)) → of_some (λ (p : K × V). values.whole c p.1) o
              ≡ of_some (values.by_ids ids) (of_some (λ (p : K × V). values.whole a p.1) o)
          alike None = refl
          alike (Some p) = ap Some (other.alike a c p.1)

  module _ (source : Memory) (old new : View) (h : HashMap K V S) (full : h.table.slots < 4 * h.len) (is : IsMapIn k source h) where
    some : 0 < h.len
    some = omega (arith, full)

    new_table : IsSlotsFor h.len h.table.slots
    new_table = (full_fits h.table.slots h.len is.handle.ring is.within full).1 some

    asks_one : (map_of k is_default keys values).asks source h ≡ table_ask k h.len ∷ []
    asks_one = ap (λ xs. table_ask k h.len ∷ xs) ((row_flat pairs_flat).asks source (pairs_in k source h))

    -- Its block is refused,
    pub table_copy_refused : (e : AllocError)
        → RoomAnswer {X = Block} (λ b. b) (Err e)
        (PlacesBlock old new (h.table.slots * slot_size k.keys.SIZE k.values.SIZE) (table_align k.keys.ALIGN k.values.ALIGN))
        → Copies (map_of k is_default keys values) ids source old new h (Err e)
    table_copy_refused e placed = record {
      blocks = [];
      placed = subst (λ asks. PlacesAll asks old new [] (Some e)) (sym asks_one)
          (table_asked k old new (λ b. b) (Err e) h.table.slots h.len some new_table placed);
      made = tt;
    }

    -- or placed, and has the table's bytes.
    pub table_copied : (b : Block) (s : S) → is_default s
        → RoomAnswer {X = Block} (λ b. b) (Ok b)
        (PlacesBlock old new (h.table.slots * slot_size k.keys.SIZE k.values.SIZE) (table_align k.keys.ALIGN k.values.ALIGN))
        → bytes_of source h.table.block ≡ bytes_of new.memory b
        → Copies (map_of k is_default keys values) ids source old new h (Ok (in_block h b s))
    table_copied b s default placed same = grind (arith, nat_tests, asks_one, table_asked, some, new_table, block_made)
