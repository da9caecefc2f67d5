-- What `define` does, in each case.
use Rattle.std.proofs.lemmas.Bool.Decides.{nat_tests}
use Rattle.std.proofs.Common.{◌≡◌, ℕ, ◌+◌, ◌*◌, ◌^◌, ◌<◌, ◌≤◌, List, [], ◌∷◌, length, reverse, refl, sym, ap, subst, ◌∙◌, ◌≢◌, arith, inl, inr, Some, Option, Ok, Err, Bool, true, false, cond}
use Rattle.std.specs.Prelude.{Result, IfErr, OnOk, OnErr, is_some, if◌then◌else◌}
use Rattle.std.specs.Int.{w32, to_le_bytes}
use Rattle.std.proofs.lemmas.List.{length-map, length-reverse}
use Rattle.arena_chunks.specs.Source.{View}
use Rattle.arena_chunks.specs.Frame.{ArePairwiseApart}
use Rattle.arena_chunks.proofs.Layers.{all_apart, pairwise_both, blocks_turned, apart_empty, frame_reflexive, frame_beside}
use Rattle.arena_items.specs.Asks.{refusal}
use Rattle.arena_items.specs.declared.item.Item.{Ghosts}
use Rattle.arena_items.specs.declared.room.AllocError.{AllocError}
use Rattle.arena_items.specs.declared.room.AllocError.TheVariants.{CapacityOverflow}
use Rattle.arena_hash.specs.Finite.{Finite, has, value_of}
use Rattle.arena_hash.specs.Maps.{map_in}
use Rattle.hash_ring.specs.declared.hasher.FxHasher.{FxHasher}
use Rattle.arena_hash.specs.declared.map.HashMap.{HashMap}
use Rattle.arena_vec.specs.Credit.{credit_of as list_credit}
use Rattle.arena_vec.specs.declared.vec.Vec.{Vec}
use Rattle.arena_symbols.specs.Asks.{TakesBoth, IsBothDenied}
use Rattle.arena_symbols.specs.Listing.{CanList, Lists, place_item}
use Rattle.arena_symbols.specs.Paying.{Pays, far_up}
use Rattle.arena_symbols.specs.Scoping.{lookup, is_in_last, with_pair, scopes_of, stands_from, most_pairs}
use Rattle.arena_symbols.specs.TableCalls.{TakesPair, IsPairDenied, Defines}
use Rattle.arena_symbols.specs.laws.TableLaws.{table_of}
use Rattle.arena_symbols.specs.Tables.{Entry, id_kind, pairs_of, newest, first_count, entries_in, recent_in, starts_in, scopes_in, table_blocks, IsTableOf, IsTableIn, table_credit}
use Rattle.arena_symbols.specs.declared.scopes.Scopes.{Scopes}
use Rattle.arena_symbols.proofs.BesideLemmas.{VecStays, plain_apart, vec_beside}
use Rattle.arena_symbols.proofs.InternLemmas.{value_if}
use Rattle.arena_symbols.proofs.PayLemmas.{told, told_err, pays_nothing, pays_more, pays_told}
use Rattle.arena_symbols.proofs.ScopeLemmas.{reverse_push, pairs_push, scopes_push, less_starts, start_within, first_most, ids_equal}
use Rattle.arena_symbols.proofs.TableLemmas.{length_recent, counted_pairs, newest_is, looked_is, in_last_is}

some_value : {K V : Type 0} (o : Option (K × V)) → is_some (value_of o) ≡ is_some o
some_value o = grind (arith, nat_tests)

module _ {item : Ghosts Entry} (old : View) (s : Scopes) (id value : ℕ) (held : IsTableIn item old.memory s) where
  abbrev scopes : List (List (ℕ × ℕ))
  scopes = scopes_in item old.memory s

  -- A pair may be appended to the list, and its place inserted into the map.
  pub can_define : (item.SIZE ≡ 16) × (item.ALIGN ≡ 4) → s.pairs.raw.len < most_pairs → CanList item id_kind old.memory s.newest s.pairs id
  can_define size few =
      let beside = plain_apart old.memory s.newest (s.pairs.raw.block ∷ []) (held.apart.0.0, tt) in
      let apart = apart_empty 1 0 (s.newest.table.block ∷ s.pairs.raw.block ∷ []) refl in
      let room : (s.pairs.raw.len + 1) * (2 * item.SIZE) ≤ 2 ^ 32 = rw size.0 (omega (arith, few)) in
      let keys = first_most (recent_in item old.memory s) in
      grind (arith, size, few, held.ids, held.pairs, held.count, beside, apart, room, keys, length_recent item old.memory s)

  module _ (fits : id < 2 ^ 32) {hid : Option ℕ} {content : List ℕ} (bytes : content ≡ to_le_bytes w32 id)
      (found : hid ≡ value_of (map_in id_kind old.memory s.newest content)) where
    hides : hid ≡ newest (recent_in item old.memory s) id
    hides = newest_is held id hid fits (rw bytes at found)

    in_last : {there : Bool} → stands_from hid s.start ≡ there → is_in_last scopes id ≡ there
    in_last stands = in_last_is held id hid fits (rw bytes at found) ∙ stands

    abbrev not_put : Bool → Result Bool AllocError
    not_put there = if there then Ok false else Err CapacityOverflow

    not_asked : (there : Bool) → is_in_last scopes id ≡ there → OnOk (not_put there) (TakesPair item old old s s id)
        × IfErr (not_put there) (λ e. e ≢ CapacityOverflow → IsPairDenied item old old s s id (refusal e))
    not_asked true is = (inl (is, refl, refl), tt)
    not_asked false is = (tt, λ no. absurd (no refl))

    -- Nothing is put: the id is there, or there are as many pairs as there can be.
    pub define_not : (there : Bool) → stands_from hid s.start ≡ there
        → (there ≡ false → most_pairs ≤ s.pairs.raw.len)
        → Defines item old old s s id value (not_put there)
    define_not there stands full =
        let pays = pays_nothing far_up 512 (table_credit s) old (not_put there) (λ k no. grind (arith, no)) in
        let asks = not_asked there (in_last stands) in
        grind (arith, in_last stands, full, counted_pairs item old.memory s, asks, pays, frame_reflexive old.memory (table_blocks s))

    module _ (stands : stands_from hid s.start ≡ false) (size : (item.SIZE ≡ 16) × (item.ALIGN ≡ 4))
        (few : s.pairs.raw.len < most_pairs) (new : View) (n : HashMap ℕ ℕ FxHasher) (v : Vec Entry) where
      abbrev now : Scopes
      now = record s { newest = n; pairs = v }

      abbrev Puts : Result ℕ AllocError → Type 0
      Puts result = Lists item id_kind old new s.newest s.pairs id (id, (value, hid)) n v result

      -- whether some map has the id, as the table's own map says
      is_there : has (map_in id_kind old.memory s.newest) (to_le_bytes w32 id) ≡ is_some (lookup scopes id)
      is_there = sym (looked_is held id _ fits refl ∙ some_value (map_in id_kind old.memory s.newest (to_le_bytes w32 id)))

      module _ {result : Result ℕ AllocError} (lists : Puts result) where
        -- The list of starts is unchanged, and the three blocks are apart.
        starts : VecStays old.memory new.memory (n.table.block ∷ v.raw.block ∷ []) place_item s.starts
        starts = vec_beside lists.frame place_item s.starts held.starts (
          blocks_turned s.newest.table.block s.starts.raw.block held.apart.0.1.0,
          (blocks_turned s.pairs.raw.block s.starts.raw.block held.apart.1.0.0, tt),
        )

        starts_are : starts_in new.memory now ≡ starts_in old.memory s
        starts_are = ap reverse starts.list_is

        apart : ArePairwiseApart (table_blocks now)
        apart = grind (arith, nat_tests, pairwise_both, all_apart, starts)

      -- The table has the pair then, or is unchanged.
      after : (result : Result ℕ AllocError) → Puts result → IsTableIn item new.memory now
          × OnOk result (scopes_in item new.memory now ≡ with_pair scopes id value)
          × OnErr result (scopes_in item new.memory now ≡ scopes)
      after (Ok at) lists =
          let recent = recent_in item old.memory s in
          let entries = entries_in item old.memory s in
          let e : Entry = (id, (value, hid)) in
          let inner = start_within (length recent) (starts_in old.memory s) held.begins in
          let places : (q : ℕ) → q < 2 ^ 32 → value_of (map_in id_kind new.memory n (to_le_bytes w32 q)) ≡ newest (e ∷ recent) q =
          λ q low. ap (λ (f : Finite ℕ ℕ). value_of (f (to_le_bytes w32 q))) lists.map_is ∙ value_if _ _ _
          ∙ (λ i. cond (ids_equal q id low fits i) (Some (sym (length_recent item old.memory s) i)) (held.places q low i)) in
          let begins = less_starts (length recent) (length (e ∷ recent)) (starts_in old.memory s) (omega (arith, inner)) held.begins in
          let count : n.len ≡ first_count (e ∷ recent) = grind (arith, lists.len, held.count, hides, held.places id fits) in
          let table : IsTableOf item new.memory now (e ∷ recent) (starts_in old.memory s) =
          grind (arith, lists.map, lists.list, (starts lists).held, apart lists, places, hides, held.hidden, begins, held.start, held.depth, count) in (
            table_of (ap reverse lists.list_is ∙ reverse_push entries e) (starts_are lists) table,
            (λ i. scopes_of (pairs_of (lists.list_is i)) (starts_are lists i))
                ∙ rw (pairs_push entries e) (scopes_push (pairs_of entries) (starts_in old.memory s) id value
                (simp length-map (omega (arith, inner, length-reverse entries)))),
            tt,
          )
      after (Err e) lists =
          let places : (q : ℕ) → q < 2 ^ 32
          → value_of (map_in id_kind new.memory n (to_le_bytes w32 q)) ≡ newest (recent_in item old.memory s) q =
          λ q low. (rw lists.kept.0 (ap (λ (f : Finite ℕ ℕ). value_of (f (to_le_bytes w32 q))) lists.kept.2)) ∙ held.places q low in
          let table : IsTableOf item new.memory now (recent_in item old.memory s) (starts_in old.memory s) =
          grind (arith, lists.map, lists.list, lists.kept.0, (starts lists).held, apart lists, places, held) in (
            table_of (ap reverse lists.kept.1) (starts_are lists) table,
            tt,
            (λ i. scopes_of (pairs_of (lists.kept.1 i)) (starts_are lists i)),
          )

      took : (result : Result ℕ AllocError) → Puts result → OnOk (told (λ _. true) result) (TakesPair item old new s now id)
      took (Ok at) lists =
          inr (in_last stands, refl, subst (λ (b : Bool). TakesBoth item id_kind b old new s.pairs v s.newest n) is_there lists.took)
      took (Err e) lists = tt

      denied : (result : Result ℕ AllocError) → Puts result
          → IfErr (told (λ _. true) result) (λ e. e ≢ CapacityOverflow → IsPairDenied item old new s now id (refusal e))
      denied (Ok at) lists = tt
      denied (Err e) lists =
          λ fits. subst (λ (b : Bool). IsBothDenied item id_kind b old new s.pairs v s.newest (refusal e)) is_there lists.denied

      -- The pair is put, or refused.
      pub defines : (result : Result ℕ AllocError) → Puts result → Defines item old new s now id value (told (λ _. true) result)
      defines result lists =
          let pays : Pays far_up 512 (table_credit s) (table_credit now) old new (told (λ _. true) result) = pays_told (λ _. true) result
          (pays_more (list_credit 4 s.starts.raw.len s.starts.raw.cap) (omega arith) (omega arith) (omega arith) (omega arith)
          (rw size.0 at lists.pays)) in
          let frame = frame_beside old.memory new.memory _ _ (s.starts.raw.block ∷ []) lists.frame in
          let full : told (λ _. true) result ≡ Err CapacityOverflow → ⊥ = λ is. lists.fits (told_err (λ _. true) result is) in
          grind (
            arith,
            in_last stands,
            after result lists,
            full,
            few,
            counted_pairs item old.memory s,
            took result lists,
            denied result lists,
            pays,
            frame,
          )
