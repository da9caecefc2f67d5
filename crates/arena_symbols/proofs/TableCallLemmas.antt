-- A map that begins.
use Rattle.std.proofs.Common.{◌≡◌, ℕ, ◌+◌, ◌-◌, ◌^◌, ◌<◌, ◌≤◌, [], ◌∷◌, ◌++◌, length, reverse, refl, sym, ap, subst, ◌∙◌, arith, Ok, Err, length-append}
use Rattle.std.specs.Prelude.{Result}
use Rattle.std.specs.Int.{w32, to_le_bytes}
use Rattle.std.proofs.lemmas.List.{length-map}
use Rattle.arena_chunks.specs.Memory.{Memory}
use Rattle.arena_chunks.specs.Source.{View}
use Rattle.arena_chunks.proofs.Layers.{frame_reflexive, frame_behind}
use Rattle.arena_items.specs.Asks.{Asked, refusal}
use Rattle.arena_items.specs.laws.LayoutLaws.{plain_4}
use Rattle.arena_items.specs.declared.item.Item.{Ghosts}
use Rattle.arena_items.specs.declared.room.AllocError.{AllocError}
use Rattle.arena_items.specs.declared.room.AllocError.TheVariants.{CapacityOverflow}
use Rattle.arena_items.proofs.Layers.{length-elements}
use Rattle.arena_vec.specs.Changes.{Grows}
use Rattle.arena_vec.specs.Credit.{credit_of as list_credit}
use Rattle.arena_vec.specs.Growth.{amortised_growth}
use Rattle.arena_vec.specs.Vecs.{vec_list}
use Rattle.arena_vec.specs.declared.vec.Vec.{Vec}
use Rattle.arena_hash.specs.Accounts.{credit_of}
use Rattle.arena_hash.specs.Finite.{Finite, value_of}
use Rattle.arena_symbols.specs.Asks.{list_ask}
use Rattle.arena_symbols.specs.Listing.{place_item}
use Rattle.arena_symbols.specs.Paying.{Pays, far_up}
use Rattle.arena_symbols.specs.Scoping.{scopes_of}
use Rattle.arena_symbols.specs.Tables.{Entry, id_kind, pairs_of, entries_in, starts_in, scopes_in, table_blocks, IsTableIn, table_credit}
use Rattle.arena_symbols.specs.TableCalls.{TakesScope, Enters}
use Rattle.arena_symbols.specs.laws.TableLaws.{table_of}
use Rattle.arena_symbols.specs.declared.scopes.Scopes.{Scopes}
use Rattle.arena_symbols.proofs.AskLemmas.{list_taken, list_asked}
use Rattle.arena_symbols.proofs.BesideLemmas.{plain_beside, vec_beside}
use Rattle.arena_symbols.proofs.PayLemmas.{Paid, pays_nothing, pays_more, pays_push}
use Rattle.arena_symbols.proofs.ScopeLemmas.{reverse_push, scopes_enter}
use Rattle.arena_symbols.proofs.TableLemmas.{depth_is, length_recent}

pub enter_full : {item : Ghosts Entry} (old : View) (s : Scopes) → IsTableIn item old.memory s → 2 ^ 29 - 1 ≤ s.starts.raw.len
    → Enters item old old s s (Err CapacityOverflow)
enter_full {item} old s held full =
    let pays = pays_nothing {X = Unit {0}} far_up 64 (table_credit s) old (Err CapacityOverflow) (λ k no. cc) in
    grind (arith, pays, frame_reflexive old.memory (table_blocks s), depth_is item old.memory s)

module _ (paid : Paid) {item : Ghosts Entry} (old new : View) {s : Scopes} (v : Vec ℕ) {n : ℕ} (held : IsTableIn item old.memory s)
    (few : s.starts.raw.len < 2 ^ 29 - 1) (one : old.memory.state.min_align ≡ 1) (is : n ≡ s.pairs.raw.len) where
  abbrev Pushes : Result (Unit {0}) AllocError → Type 0
  Pushes result = Grows place_item old new s.starts (amortised_growth 4 s.starts.raw.cap (s.starts.raw.len + 1))
      (vec_list place_item old.memory s.starts ++ s.pairs.raw.len ∷ []) v result

  -- the handle after the call
  abbrev entered : Result (Unit {0}) AllocError → Scopes
  entered (Ok x) = record s { starts = v; start = n }
  entered (Err e) = record s { starts = v }

  longer : length (vec_list place_item old.memory s.starts ++ s.pairs.raw.len ∷ []) ≡ s.starts.raw.len + 1
  longer = simp (length-append, length-elements) (omega arith)

  pays_start : (result : Result (Unit {0}) AllocError) → (result ≡ Err CapacityOverflow → ⊥) → Pushes result
      → Pays far_up 64 (table_credit s) (table_credit (record s { starts = v })) old new result
  pays_start result fits grows =
      pays_more (list_credit 16 s.pairs.raw.len s.pairs.raw.cap + credit_of id_kind s.newest) (omega arith) (omega arith) (omega arith)
      (omega arith)
      (pays_push paid place_item plain_4 (omega arith) (omega arith) (omega arith) old new s.starts v
      (vec_list place_item old.memory s.starts ++ s.pairs.raw.len ∷ []) one held.starts (omega (arith, few)) longer result fits grows)

  pub enters : (result : Result (Unit {0}) AllocError) → (result ≡ Err CapacityOverflow → ⊥) → Pushes result
      → Enters item old new s (entered result) result
  enters (Ok x) fits grows =
      let map = plain_beside grows.frame s.newest held.ids (held.apart.0.1.0, tt) in
      let vec = vec_beside grows.frame item s.pairs held.pairs (held.apart.1.0.0, tt) in
      let entries = entries_in item old.memory s in
      let after = record s { starts = v; start = n } in
      let places : starts_in new.memory after ≡ s.pairs.raw.len ∷ starts_in old.memory s =
      ap reverse grows.list_is ∙ reverse_push (vec_list place_item old.memory s.starts) s.pairs.raw.len in
      let still : IsTableIn item new.memory after =
      table_of (ap reverse vec.list_is) places (record {
        ids = map.held;
        pairs = vec.held;
        starts = grows.held;
        apart = ((held.apart.0.0, (map.apart.0.0, tt)), ((vec.apart.0, tt), (tt, tt)));
        places = λ id fits. ap (λ (f : Finite ℕ ℕ). value_of (f (to_le_bytes w32 id))) map.means ∙ held.places id fits;
        hidden = held.hidden;
        begins = (omega (arith, length_recent item old.memory s), rw (length_recent item old.memory s) at held.begins);
        start = is;
        depth = omega (arith, grows.len, few, longer);
        count = held.count;
      }) in
      let pairs = length-map entries (λ (e : Entry). (e.0, e.1.0)) ∙ length-elements _ _ _ _ in
      let scopes : scopes_in item new.memory after ≡ [] ∷ scopes_in item old.memory s =
      (λ i. scopes_of (pairs_of (vec.list_is i)) (places i))
      ∙ scopes_enter (pairs_of entries) (starts_in old.memory s) s.pairs.raw.len (sym pairs) in
      let frame = frame_behind _ _ _ _ (s.newest.table.block ∷ s.pairs.raw.block ∷ []) grows.frame in
      let list = list_taken place_item (omega arith) old new s.starts v (vec_list place_item old.memory s.starts ++ s.pairs.raw.len ∷ [])
      held.starts x grows in
      let took : TakesScope old new s after = record { list = list; rest = (refl, refl) } in
      grind (arith, still, scopes, fits, few, depth_is item old.memory s, took, pays_start (Ok x) fits grows, frame)
  enters (Err e) fits grows =
      let same = grows.err.1 in
      let still : IsTableIn item new.memory (record s { starts = v }) =
      rw grows.err.0 (subst (λ (m : Memory). IsTableIn item m s) (sym same) held) in
      let frame = frame_behind _ _ _ _ (s.newest.table.block ∷ s.pairs.raw.block ∷ []) grows.frame in
      let denied : Asked (list_ask place_item s.starts) old new (refusal e) =
      list_asked place_item (omega arith) old new s.starts v (vec_list place_item old.memory s.starts ++ s.pairs.raw.len ∷ []) held.starts e
      (λ is. fits (ap Err is)) grows in
      grind (arith, still, same, grows.err.0, fits, few, depth_is item old.memory s, denied, pays_start (Err e) fits grows, frame)
