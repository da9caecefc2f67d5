-- What `intern` does, in each case.
use Rattle.std.proofs.lemmas.Bool.Decides.{nat_tests}
use Rattle.std.proofs.Common.{◌≡◌, ℕ, ◌+◌, ◌^◌, ◌<◌, ◌≤◌, List, [], ◌∷◌, ◌++◌, length, refl, sym, ap, ◌∙◌, arith, inl, inr, ◌≢◌, subst, Option, Bool, false, Some, None, Ok, Err, append-nil}
use Rattle.std.specs.Prelude.{Result, ◌↔◌, is_some}
use Rattle.std.proofs.lemmas.Slice.Eq.{bytes_eq-Decides}
use Rattle.arena_chunks.specs.Memory.{Memory}
use Rattle.arena_chunks.specs.Source.{View}
use Rattle.arena_chunks.specs.Answers.Answer.{Placed}
use Rattle.arena_chunks.specs.BlockCalls.{PlacesBlock}
use Rattle.arena_chunks.specs.Frame.{Frame}
use Rattle.arena_store.specs.declared.block.Block.{Block}
use Rattle.arena_chunks.specs.declared.allocator.text.Str.{Str}
use Rattle.arena_chunks.proofs.Layers.{blocks_turned, all_from_none, frame_reflexive, frame_then, frame_weaken, frame_beside, frame_behind}
use Rattle.arena_items.specs.Asks.{Fresh, Asked, refusal}
use Rattle.arena_items.specs.Room.{RoomAnswer}
use Rattle.arena_items.specs.Values.{bytes_of}
use Rattle.arena_items.specs.declared.room.AllocError.{AllocError}
use Rattle.arena_items.specs.declared.room.AllocError.TheVariants.{CapacityOverflow}
use Rattle.arena_items.proofs.Layers.{still, block_asked}
use Rattle.arena_hash.specs.Contents.{content_in}
use Rattle.arena_hash.specs.Finite.{has}
use Rattle.arena_hash.specs.Maps.{IsMapIn, map_in}
use Rattle.hash_ring.specs.declared.hasher.FxHasher.{FxHasher}
use Rattle.arena_hash.specs.declared.map.HashMap.{HashMap}
use Rattle.arena_vec.specs.declared.vec.Vec.{Vec}
use Rattle.arena_symbols.specs.Asks.{TakesBoth, IsBothDenied}
use Rattle.arena_symbols.specs.Interner.{number_of, most_texts}
use Rattle.arena_symbols.specs.Interning.{KeepsTexts, TakesText, IsTextDenied, Interns}
use Rattle.arena_symbols.specs.Listing.{CanList, Lists}
use Rattle.arena_symbols.specs.Names.{name_kind, blocks_of, contents_of, texts_in, names_in, own_blocks, names_footprint, names_credit, IsInternerIn}
use Rattle.arena_symbols.specs.Paying.{Pays, far_up}
use Rattle.arena_symbols.specs.declared.symbols.Symbols.{Symbols}
use Rattle.arena_symbols.proofs.InternLemmas.{AreTexts, IsNewText, InternerStays, interner_beside, length_names, blocks_push, kept_frame, can_append, appended, not_appended}
use Rattle.arena_symbols.proofs.NumberLemmas.{number_push}
use Rattle.arena_symbols.proofs.PayLemmas.{pays_nothing, pays_as, pays_more, pays_then, pays_text}

module _ (old : View) (s : Symbols) (text : List ℕ) (held : IsInternerIn old.memory s) where
  abbrev list : List Str
  list = texts_in old.memory s

  abbrev names : List (List ℕ)
  names = names_in old.memory s

  -- The text is there.
  pub interns_known : (n : ℕ) → number_of names text ≡ Some n → Interns old old s s text (Ok n)
  interns_known n is =
      let took : TakesText old old s s text = inl (λ none. grind (arith, is, none), refl, refl) in
      grind (arith, nat_tests, took, pays_nothing, append-nil, frame_reflexive)

  -- If refused, it has the blocks of its texts from before.
  interns_not : (new : View) (u : Symbols) (e : AllocError) → number_of names text ≡ None → IsInternerIn new.memory u
      → texts_in new.memory u ≡ list → names_in new.memory u ≡ names
      → ◌≡◌ {A = Result ℕ AllocError} (Err e) (Err CapacityOverflow) ↔ (most_texts ≤ length names)
      → ((◌≡◌ {A = Result ℕ AllocError} (Err e) (Err CapacityOverflow)) → (new ≡ old) × (u ≡ s))
      → (e ≢ CapacityOverflow → IsTextDenied old new s u text (refusal e))
      → Pays {X = ℕ} far_up (1024 + length text) (names_credit s) (names_credit u) old new (Err e)
      → Frame old.memory new.memory (own_blocks s) (own_blocks u) → Interns old new s u text (Err e)
  interns_not new u e none held same kept full leaves denied pays frame =
      let texts : KeepsTexts old new s u [] = record { blocks = ap blocks_of same ∙ sym (append-nil (blocks_of list)); frame = frame } in
      let all = kept_frame [] texts in
      grind (arith, nat_tests, texts, all)

  -- There are as many texts as there can be.
  pub interns_full : number_of names text ≡ None → most_texts ≤ s.texts.raw.len → Interns old old s s text (Err CapacityOverflow)
  interns_full none full =
      let pays = pays_nothing {X = ℕ} far_up (1024 + length text) (names_credit s) old (Err CapacityOverflow) (λ k no. cc) in
      interns_not old s CapacityOverflow none held refl refl (grind (arith, full, length_names old.memory s)) (λ is. (refl, refl))
      (λ no. absurd (no refl)) pays (frame_reflexive _ _)

  module _ (none : number_of names text ≡ None) (few : s.texts.raw.len < most_texts) (one : old.memory.state.min_align ≡ 1)
      (short : length text < 2 ^ 32) where
    pays_place : (mid : View) (result : Result Str AllocError)
        → RoomAnswer (λ t. t.block) result (PlacesBlock old mid (length text) 1)
        → Pays far_up (length text) (names_credit s) (names_credit s) old mid result
    pays_place mid result places =
        pays_more (names_credit s) (omega arith) (omega arith) (omega arith) (omega arith)
        (pays_text (λ (t : Str). t.block) old mid (length text) result one short places)

    placed_fits : (new : View) (e : AllocError) → RoomAnswer {X = Str} (λ t. t.block) (Err e) (PlacesBlock old new (length text) 1)
        → (◌≡◌ {A = Result ℕ AllocError} (Err e) (Err CapacityOverflow)) → ⊥
    placed_fits new e places is = grind (arith, places, is)

    -- The text isn't placed.
    pub interns_unplaced : (new : View) (e : AllocError) → RoomAnswer {X = Str} (λ t. t.block) (Err e) (PlacesBlock old new (length text) 1)
        → Interns old new s s text (Err e)
    interns_unplaced new e places =
        let same : new.memory ≡ old.memory = grind (arith, places) in
        let fits = placed_fits new e places in
        interns_not new s e none (rw same held) (cc) (cc) (grind (arith, fits, few, length_names old.memory s)) (λ is. absurd (fits is))
        (λ no. inl (block_asked old new (length text) 1 (λ (t : Str). t.block) e places, same))
        (pays_as 0 (λ d is. cc) (omega arith) (omega arith) (omega arith) (omega arith) (pays_place new (Err e) places))
        (rw same (frame_reflexive _ _))

    module _ (mid : View) (t : Str) (places : PlacesBlock old mid (length text) 1 (Placed t.block))
        (bytes : bytes_of mid.memory t.block ≡ text) where
      -- It is, and the texts are unchanged,
      stays : InternerStays old.memory mid.memory (t.block ∷ []) s
      stays = interner_beside s places.1.outcome.frame held (all_from_none (names_footprint old.memory s))

      fresh : IsNewText mid.memory s t
      fresh = grind (arith, nat_tests, blocks_turned, stays)

      pub can_list : CanList name_kind.keys name_kind mid.memory s.numbers s.texts t
      can_list = can_append stays.held few fresh

      asked : Asked (Fresh (length text) 1) old mid (Placed t.block)
      asked = record { start = old; between = mid; written = still old; answers = places; places = still mid }

      -- The map doesn't have it.
      not_there : has (map_in name_kind mid.memory s.numbers) (content_in name_kind.key mid.memory t) ≡ false
      not_there =
          let nothing : map_in name_kind mid.memory s.numbers (bytes_of mid.memory t.block) ≡ None =
          grind (arith, stays.held.places (bytes_of mid.memory t.block), fresh.new) in ap (λ (o : Option (Str × ℕ)). is_some o) nothing

      module _ (new : View) (n : HashMap Str ℕ FxHasher) (v : Vec Str) where
        abbrev now : Symbols
        now = record { numbers = n; texts = v }

        framed : Frame mid.memory new.memory (own_blocks s) (own_blocks now)
            → Frame old.memory new.memory (own_blocks s) (own_blocks now ++ t.block ∷ [])
        framed frame = frame_then _ _ _ (own_blocks s) (own_blocks s ++ t.block ∷ []) (own_blocks now ++ t.block ∷ [])
            (frame_behind _ _ [] (t.block ∷ []) (own_blocks s) places.1.outcome.frame)
            (frame_beside _ _ (own_blocks s) (own_blocks now) (t.block ∷ []) frame)

        pays_all : (result : Result ℕ AllocError) → Lists name_kind.keys name_kind mid new s.numbers s.texts t t n v result
            → Pays far_up (1024 + length text) (names_credit s) (names_credit now) old new result
        pays_all result lists =
            pays_more {few = length text + 839} 0 (omega arith) (omega arith) (omega arith) (omega arith) (pays_then t
            places.1.outcome.frame.is_growing places.1.outcome.frame.allocated lists.pays.refused (pays_place mid (Ok t) places) lists.pays)

        -- and then it is appended, or not.
        pub interns_placed : (result : Result ℕ AllocError)
            → ((memory : Memory) (m : HashMap Str ℕ FxHasher) → IsMapIn name_kind memory m → AreTexts memory m)
            → Lists name_kind.keys name_kind mid new s.numbers s.texts t t n v result → Interns old new s now text result
        interns_placed (Ok at) texts lists =
            let are = appended mid new n v stays.held fresh (texts mid.memory s.numbers stays.held.numbers) (texts new.memory n lists.map)
            lists in
            let named : names_in new.memory now ≡ names ++ text ∷ [] = ap (contents_of new.memory) lists.list_is ∙ are.1
            ∙ (λ i. stays.names i ++ bytes i ∷ []) in
            let number = number_push names text text none in
            let blocks = ap blocks_of (lists.list_is ∙ ap (λ (l : List Str). l ++ t ∷ []) stays.texts) ∙ blocks_push list t in
            let texts : (more : List Block) × KeepsTexts old new s now more =
            (t.block ∷ [], record { blocks = blocks; frame = framed lists.frame }) in
            let all = kept_frame texts.0 texts.1 in
            let same = (bytes_eq-Decides text text).1 refl in
            let pays = pays_all (Ok at) lists in
            let took : TakesText old new s now text = inr (
              none,
              record {
                block = t.block;
                mid = mid;
                bytes = asked;
                both = subst (λ (b : Bool). TakesBoth name_kind.keys name_kind b mid new s.texts v s.numbers n) not_there lists.took;
              },
            ) in
            grind (arith, are.0, named, none, number, same, lists.place, few, length_names old.memory s, took, pays, texts, all)
        interns_placed (Err e) texts lists =
            let are = not_appended mid new n v stays.held fresh lists in
            interns_not new now e none are.0 (lists.kept.1 ∙ stays.texts)
            (ap (contents_of new.memory) lists.kept.1 ∙ are.1 ∙ stays.names)
            (grind (arith, lists.fits, few, length_names old.memory s)) (λ is. absurd (lists.fits is)) (λ no. inr (
              t.block,
              mid,
              asked,
              subst (λ (b : Bool). IsBothDenied name_kind.keys name_kind b mid new s.texts v s.numbers (refusal e)) not_there lists.denied,
            ))
            (pays_all (Err e) lists)
            (frame_weaken _ _ (own_blocks s) (own_blocks s) (own_blocks now ++ t.block ∷ []) (own_blocks now)
            (λ addr n some apart. apart) (λ addr n some apart after. (after.0, (after.1.0, tt))) (framed lists.frame))
