-- Copies of pairs, put one after another into a map with room for them.
use Rattle.std.proofs.Common.{◌≡◌, ℕ, inl, inr, ◌+◌, ◌<◌, ◌≤◌, refl, sym, ap, subst, ◌∙◌, arith, List, [], ◌∷◌, ◌++◌, Option, Some, None, Ok, Err, true, false, length, length-append, append-nil, take, drop, zero, suc, IsTrue}
use Rattle.std.specs.Prelude.{cond, slice_get, map, bytes_eq, is_some, nat_lt}
use Rattle.std.specs.List.{AllByRecursion, IsDistinct}
use Rattle.std.proofs.lemmas.Bool.Decides.{nat_tests}
use Rattle.std.proofs.lemmas.List.{map-append}
use Rattle.std.proofs.lemmas.List.Elements.{filter_map-append}
use Rattle.std.proofs.lemmas.List.Sorted.{IsPermutation-sym}
use Rattle.arena_chunks.specs.Memory.{Memory, is_readable}
use Rattle.arena_chunks.specs.Source.{View}
use Rattle.arena_chunks.specs.Frame.{Frame, IsApart, AreAllApart, AreBlocksApart}
use Rattle.arena_store.specs.declared.block.Block.{Block}
use Rattle.arena_chunks.proofs.Layers.{frame_keeps_all}
use Rattle.arena_items.specs.Footprint.{Agree}
use Rattle.arena_items.specs.declared.room.AllocError.{AllocError}
use Rattle.arena_items.proofs.Layers.{stays_readable, stays_agree}
use Rattle.arena_hash.specs.Accounts.{spare_of}
use Rattle.arena_hash.specs.laws.AgreeLaws.{meaning-agree, held-agree}
use Rattle.arena_hash.specs.Changes.{Puts, is_value}
use Rattle.arena_hash.specs.Contents.{content_in, Kind as MapTypes}
use Rattle.arena_hash.specs.Finite.{Finite, AreOnce, first_of, with_pair, has}
use Rattle.arena_hash.specs.Maps.{IsMapIn, map_in, footprint}
use Rattle.arena_hash.specs.Policy.{growth_for, limit}
use Rattle.arena_hash.specs.Slots.{items}
use Rattle.arena_items.specs.declared.room.Growth.TheVariants.{Stays}
use Rattle.arena_hash.specs.declared.map.HashMap.{HashMap}
use Rattle.arena_clone.specs.Kinds.{Kind, row_of}
use Rattle.arena_clone.specs.laws.KindLaws.{IsLawful, row_lawful, agree_each}
use Rattle.arena_clone.specs.MapKind.{KeepsContent, pair_of}
use Rattle.arena_clone.specs.laws.MapLaws.{at_block, pair_lawful, text_agree, text_readable}
use Rattle.arena_clone.specs.MapCopies.{HoldsCopies, PutsCopies}
use Rattle.arena_clone.specs.Copies.{Copies}
use Rattle.arena_clone.specs.Rows.{CopiesRow}
use Rattle.arena_kinds.specs.declared.ids.CloneInSemanticIds.{CloneInSemanticIds}
use Rattle.arena_kinds.proofs.Layers.{apart_front, apart_of_none, apart_to, apart_turned, deep_agree}
use Rattle.arena_clone.proofs.RowLemmas.{take_more, cut_at, row_none, row_refused, row_added, made_between, apart_between}
use Rattle.arena_clone.proofs.FiniteLemmas.{AreOthers, none_found, found_more, once_others}

module _ {K V S : Type 0} (k : MapTypes K V S) {keys : Kind K} {values : Kind V} (keeps : KeepsContent k.key keys) (one : IsLawful keys)
    (two : IsLawful values) where
  -- ---- Contents that a call leaves alone

  content_agree : (a c : Memory) (key : K) → Agree a c (keys.deep a key) → content_in k.key c key ≡ content_in k.key a key
  content_agree a c key agree = ap (k.key.content key) (sym (text_agree k keys values keeps one two a c key agree))

  -- The contents of pairs stay,
  pub contents_agree : (a c : Memory) (ps : List (K × V)) → Agree a c ((row_of (pair_of keys values)).deep a ps)
      → map (λ (p : K × V). content_in k.key c p.0) ps ≡ map (λ (p : K × V). content_in k.key a p.0) ps
  contents_agree a c [] agree = refl
  contents_agree a c (p ∷ ps) agree =
      let same = agree_each a c (keys.deep a p.0 ++ values.deep a p.1) ((row_of (pair_of keys values)).deep a ps) agree in
      λ i. content_agree a c p.0 (agree_each a c (keys.deep a p.0) (values.deep a p.1) same.0).0 i ∷ contents_agree a c ps same.1 i

  -- and so does what is found by them.
  pub first_agree : (a c : Memory) (ps : List (K × V)) → Agree a c ((row_of (pair_of keys values)).deep a ps)
      → first_of (content_in k.key c) ps ≡ first_of (content_in k.key a) ps
  first_agree a c [] agree = refl
  first_agree a c (p ∷ ps) agree =
      let same = agree_each a c (keys.deep a p.0 ++ values.deep a p.1) ((row_of (pair_of keys values)).deep a ps) agree in
      let here = content_agree a c p.0 (agree_each a c (keys.deep a p.0) (values.deep a p.1) same.0).0 in
      λ i q. cond (bytes_eq (here i) q) (Some p) (first_agree a c ps same.1 i q)

  -- ---- While blocks are placed

  -- A key's text is apart if the key is.
  pub text_apart : (memory : Memory) (key : K) (target : Block) → AreAllApart (keys.deep memory key) (target ∷ [])
      → AreBlocksApart (k.key.text key) target
  text_apart memory key target apart = elim (keeps.text memory key) [
    | inl none ↦ (λ some filled. absurd (omega (arith, none, some)))
    | inr found ↦ (at_block (λ b. IsApart b.addr b.size (target ∷ [])) (keys.deep memory key) found.0 (k.key.text key)
        (apart_to (keys.deep memory key) (target ∷ []) apart) found.1 found.2).0
  ]

  -- A map of copies stays one.
  holds_beside : {source old new : Memory} {m w : HashMap K V S} {xs ys : List (K × V)} {blocks : List Block} → Frame old new [] blocks
      → (row_of (pair_of keys values)).is_held old ys → HoldsCopies k source old m xs ys w → HoldsCopies k source new m xs ys w
  holds_beside {old} {new} {w} {ys} {blocks} frame held holds =
      let stays = frame_keeps_all old new [] blocks (footprint k old w) frame (holds.held.handle.place.readable, holds.held.texts)
      (apart_of_none (footprint k old w)) in
      let agree = stays_agree old new blocks (footprint k old w) stays in
      let deep = deep_agree (row_lawful (pair_of keys values) (pair_lawful keys values one two)) frame ys held
      (apart_of_none ((row_of (pair_of keys values)).deep old ys)) in
      record {
        held = held-agree k old new w agree holds.held (stays_readable old new blocks (footprint k old w) stays);
        map_is = sym (meaning-agree k old new w agree) ∙ holds.map_is ∙ sym (first_agree old new ys deep);
        contents = contents_agree old new ys deep ∙ holds.contents;
        len = holds.len;
        room = holds.room;
        block = holds.block;
        hasher = holds.hasher;
      }

-- ---- The pairs in the first slots

items_free : {X : Type 0} (slots : List (Option X)) (i : ℕ) → slice_get slots i ≡ Some None → items (take (i + 1) slots) ≡ items (take i
    slots)
items_free slots i free =
    ap items (take_more slots i None free) ∙ filter_map-append (λ x. x) (take i slots) (None ∷ []) ∙ append-nil (items (take i slots))

items_more : {X : Type 0} (slots : List (Option X)) (i : ℕ) (x : X) → slice_get slots i ≡ Some (Some x)
    → items (take (i + 1) slots) ≡ items (take i slots) ++ x ∷ []
items_more slots i x taken = ap items (take_more slots i (Some x) taken) ∙ filter_map-append (λ x. x) (take i slots) (Some x ∷ [])

items_cut : {X : Type 0} (slots : List (Option X)) (i : ℕ) (x : X) → slice_get slots i ≡ Some (Some x)
    → items slots ≡ items (take i slots) ++ x ∷ items (drop (suc i) slots)
items_cut slots i x taken = ap items (cut_at slots i (Some x) taken) ∙ filter_map-append (λ x. x) (take i slots) (Some x ∷ drop (suc i)
    slots)

-- Copies of the pairs in the first i slots were put into an empty map.
pub record PutsFirst {K V S : Type 0} (k : MapTypes K V S) (keys : Kind K) (values : Kind V) (ids : CloneInSemanticIds) (source : Memory)
    (old new : View) (m : HashMap K V S) (slots : List (Option (K × V))) (i : ℕ) (w : HashMap K V S) : Type 0 where
  pub ys : List (K × V)
  pub row : CopiesRow {X = Unit {0}} (pair_of keys values) ids source old new m.table.block (items (take i slots)) ys (Ok tt)
  pub holds : HoldsCopies k source new.memory m (items (take i slots)) ys w

-- None at first.
pub puts_none : {K V S : Type 0} {k : MapTypes K V S} {keys : Kind K} {values : Kind V} {ids : CloneInSemanticIds} {source : Memory}
    {old : View} {m : HashMap K V S} {slots : List (Option (K × V))} → HoldsCopies k source old.memory m [] [] m
    → PutsFirst k keys values ids source old old m slots 0 m
puts_none empty = record { ys = []; row = row_none empty.held.handle.place.readable; holds = empty }

module _ {K V S : Type 0} {k : MapTypes K V S} {keys : Kind K} {values : Kind V} {ids : CloneInSemanticIds} {source : Memory}
    {old mid : View} {m w : HashMap K V S} {slots : List (Option (K × V))} {i : ℕ}
    (puts : PutsFirst k keys values ids source old mid m slots i w) where
  -- A free slot has none.
  pub puts_free : slice_get slots i ≡ Some None → PutsFirst k keys values ids source old mid m slots (i + 1) w
  puts_free free = grind (arith, nat_tests, items_free)

  -- ---- One more

  module _ (one : IsLawful keys) (two : IsLawful values) {x : K × V} (taken : slice_get slots i ≡ Some (Some x)) where
    abbrev front : List (K × V)
    front = items (take i slots)

    abbrev rest : List (K × V)
    rest = items (drop (suc i) slots)

    pairs_are : IsLawful (pair_of keys values)
    pairs_are = pair_lawful keys values one two

    -- A pair is refused.
    pub puts_refused : {between : View} {e : AllocError} → Copies (pair_of keys values) ids source mid between x (Err e)
        → PutsCopies k keys values ids source old between m (items slots) (Err e)
    puts_refused copy =
        record { ys = []; row = rw (items_cut slots i x taken) (row_refused pairs_are puts.row x rest copy); map = tt }

    module _ (keeps : KeepsContent k.key keys) (once : AreOnce (content_in k.key source) (items slots))
        (room : length (items slots) ≤ spare_of m) {between : View} {copied : K × V}
        (copy : Copies (pair_of keys values) ids source mid between x (Ok copied)) where
      abbrev contents : Memory → List (K × V) → List (List ℕ)
      contents memory ps = map (λ (p : K × V). content_in k.key memory p.0) ps

      holds : HoldsCopies k source between.memory m front puts.ys w
      holds = holds_beside k keeps one two copy.placed.frame puts.row.made.held puts.holds

      -- The table is apart from the blocks of the copies.
      deep_apart : AreAllApart ((row_of (pair_of keys values)).deep between.memory (puts.ys ++ copied ∷ [])) (m.table.block ∷ [])
      deep_apart =
          let deep = (row_of (pair_of keys values)).deep between.memory (puts.ys ++ copied ∷ []) in
          apart_turned (puts.row.blocks ++ copy.blocks) deep (m.table.block ∷ [])
          (IsPermutation-sym deep (puts.row.blocks ++ copy.blocks) (made_between pairs_are puts.row x copy).deep)
          (apart_between pairs_are puts.row x copy)

      -- The content of the next copy is new,
      same : content_in k.key between.memory copied.0 ≡ content_in k.key source x.0
      same = keeps.same ids source between.memory x.0 copied.0 (λ j. (copy.made.means j).0)

      others : AreOthers (content_in k.key between.memory) (content_in k.key between.memory copied.0) puts.ys
      others =
          let once_cut : AreOnce (content_in k.key source) (front ++ x ∷ rest) = rw (items_cut slots i x taken) at once in
          let cut = map-append (λ (p : K × V). content_in k.key source p.0) front (x ∷ rest) in
          let all = once_others (contents source front) (contents source rest) (content_in k.key source x.0)
          (subst (IsDistinct bytes_eq) cut once_cut) in
          rw (holds.contents, same) all

      absent : has (map_in k between.memory w) (content_in k.key between.memory copied.0) ≡ false
      absent = ap is_some (ap (λ (f : Finite K V). f (content_in k.key between.memory copied.0)) holds.map_is
          ∙ none_found (content_in k.key between.memory) (content_in k.key between.memory copied.0) puts.ys others)

      there_is_room : 0 < spare_of w
      there_is_room =
          omega (arith, room, holds.room, ap length (items_cut slots i x taken), length-append front (x ∷ rest))

      -- so the map asks for nothing;
      growth_is : growth_for (has (map_in k between.memory w) (content_in k.key between.memory copied.0)) w.table.slots w.len ≡ Stays
      growth_is = rw (absent, below) refl
        where
          below : nat_lt w.len (limit w.table.slots) ≡ true
          below = grind (arith, nat_tests, there_is_room)

      -- it is held, as is the text of the next key, which is apart from its table.
      pub put_map : IsMapIn k between.memory w
      put_map = holds.held

      pub put_readable : IsTrue (is_readable between.memory.state (k.key.text copied.0))
      put_readable = text_readable k keys values keeps one two between.memory between.memory copied.0
          (one.readable between.memory copied.0 copy.made.held.0)

      pub put_apart : AreBlocksApart (k.key.text copied.0) w.table.block
      put_apart =
          let blocks = (apart_front puts.row.blocks copy.blocks (m.table.block ∷ []) (apart_between pairs_are puts.row x copy)).1 in
          let deep = apart_turned copy.blocks ((pair_of keys values).deep between.memory copied) (m.table.block ∷ [])
          (IsPermutation-sym ((pair_of keys values).deep between.memory copied) copy.blocks copy.made.deep) blocks in
          rw puts.holds.block (text_apart k keeps one two between.memory copied.0 m.table.block
          (apart_front (keys.deep between.memory copied.0) (values.deep between.memory copied.1) (m.table.block ∷ []) deep).0)

      -- Nothing is refused,
      pub puts_no_refusal : {new : View} {u : HashMap K V S} {e : AllocError}
          → Puts {X = Option V} k between new w copied.0 copied.1 is_value u (Err e) → ⊥
      puts_no_refusal put = (rw growth_is at put.made).0

      -- and there is one more.
      pub puts_more : {new : View} {u : HashMap K V S} {before : Option V}
          → Puts k between new w copied.0 copied.1 is_value u (Ok before) → PutsFirst k keys values ids source old new m slots (i + 1) u
      puts_more {new} put =
          let made = rw growth_is at put.made in
          let block = made.0 ∙ holds.block in
          let frame : Frame between.memory new.memory (m.table.block ∷ []) (m.table.block ∷ []) = rw (holds.block, block) at put.frame in
          let paid = (put.costs.room absent there_is_room).1 in
          let long = length-append front (x ∷ []) in
          let ys = puts.ys ++ copied ∷ [] in
          let agree = deep_agree (row_lawful (pair_of keys values) pairs_are) frame ys (made_between pairs_are puts.row x copy).held
          deep_apart in
          record {
            ys = ys;
            row = rw (items_more slots i x taken)
                (row_added pairs_are puts.row x copy frame made.1 (rw block at put.held.handle.place.readable));
            holds = rw (items_more slots i x taken) (record {
              held = put.held;
              map_is = put.map_is
                  ∙ ap (λ (f : Finite K V). with_pair f (content_in k.key between.memory copied.0) copied.0 copied.1) holds.map_is
                  ∙ found_more (content_in k.key between.memory) puts.ys copied.0 copied.1 others
                  ∙ sym (first_agree k keeps one two between.memory new.memory ys agree);
              contents = contents_agree k keeps one two between.memory new.memory ys agree
                  ∙ simp map-append (cc (holds.contents, same));
              len = put.len ∙ rw absent (omega (arith, holds.len, long));
              room = omega (arith, holds.room, paid.spare, long);
              block = block;
              hasher = put.hasher ∙ holds.hasher;
            });
          }

-- what holds of each pair holds of the one in a slot
pub at_slot : {X : Type 0} (P : X → Type 0) (slots : List (Option X)) (i : ℕ) (x : X) → AllByRecursion P (items slots)
    → slice_get slots i ≡ Some (Some x) → P x
at_slot P [] i x all at = absurd (cc at)
at_slot P (None ∷ slots) zero x all at = absurd (cc at)
at_slot P (None ∷ slots) (suc i) x all at = at_slot P slots i x all at
at_slot P (Some y ∷ slots) zero x all at = subst P (cc at) all.0
at_slot P (Some y ∷ slots) (suc i) x all at = at_slot P slots i x all.1 at
