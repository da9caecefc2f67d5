-- The newest pair is removed.
use Rattle.std.proofs.Common.{◌≡◌, ℕ, ◌+◌, ◌^◌, ◌<◌, ◌≤◌, List, [], ◌∷◌, length, take, reverse, ap, subst, ◌∙◌, arith, Some, None, Option, Ok, Err, true, cond}
use Rattle.std.specs.Prelude.{slice_get, Result}
use Rattle.std.specs.Int.{w32, to_le_bytes}
use Rattle.std.proofs.lemmas.Bool.Decides.{nat_tests}
use Rattle.std.proofs.lemmas.List.{length-take, length-reverse, take_all, take-take}
use Rattle.arena_chunks.specs.Source.{View}
use Rattle.arena_chunks.specs.Frame.{Frame}
use Rattle.arena_chunks.proofs.Layers.{blocks_turned, frame_beside, frame_reflexive, frame_then}
use Rattle.arena_items.specs.declared.item.Item.{Ghosts}
use Rattle.arena_items.specs.declared.room.AllocError.{AllocError}
use Rattle.arena_items.proofs.Layers.{length-elements, same_then}
use Rattle.arena_vec.specs.Changes.{Becomes}
use Rattle.arena_vec.specs.declared.vec.Vec.{Vec}
use Rattle.arena_hash.specs.Changes.{Puts, TakesOut, is_value}
use Rattle.arena_hash.specs.Finite.{Finite, has, value_of}
use Rattle.arena_hash.specs.Maps.{map_in}
use Rattle.hash_ring.specs.declared.hasher.FxHasher.{FxHasher}
use Rattle.arena_hash.specs.declared.map.HashMap.{HashMap}
use Rattle.arena_symbols.specs.Listing.{place_item}
use Rattle.arena_symbols.specs.TableCalls.{Cuts, Unhides}
use Rattle.arena_symbols.specs.laws.TableLaws.{table_of}
use Rattle.arena_symbols.specs.Tables.{Entry, id_kind, entries_in, recent_in, starts_in, table_blocks, IsTableOf, IsTableIn}
use Rattle.arena_symbols.specs.declared.scopes.Scopes.{Scopes}
use Rattle.arena_symbols.proofs.BesideLemmas.{vec_beside}
use Rattle.arena_symbols.proofs.NamedLemmas.{all_turned}
use Rattle.arena_symbols.proofs.PayLemmas.{credit_less}
use Rattle.arena_symbols.proofs.InternLemmas.{value_if}
use Rattle.arena_symbols.proofs.ScopeLemmas.{less_starts, ids_equal, reverse_last}

module _ {old new : View} {m w : HashMap ℕ ℕ FxHasher} {id : ℕ}
    (there : has (map_in id_kind old.memory m) (to_le_bytes w32 id) ≡ true) where
  -- A key that is there was inserted again.
  pub unhide_some : (at : ℕ) (result : Result (Option ℕ) AllocError) → Puts id_kind old new m id at is_value w result
      → Unhides old new m id (Some at) w
  unhide_some at (Ok before) puts = record {
    held = puts.held;
    values = λ q low. ap (λ (f : Finite ℕ ℕ). value_of (f (to_le_bytes w32 q))) puts.map_is ∙ value_if _ _ _;
    len = let len = rw there at puts.len in omega (arith, len);
    block = (rw there at puts.made).0;
    places = (puts.costs.there there).1.places;
    credit = (puts.costs.there there).1.credit;
    frame = puts.frame;
  }
  unhide_some at (Err error) puts = absurd (let no = (puts.costs.there there).0 in cc)

  -- The key of a pair that hid none was removed.
  pub unhide_none : (result : Option ℕ) → TakesOut id_kind old new m id is_value w result → Unhides old new m id None w
  unhide_none result takes = record {
    held = takes.becomes.held;
    values = λ q low. ap (λ (f : Finite ℕ ℕ). value_of (f (to_le_bytes w32 q))) takes.becomes.map_is ∙ value_if _ _ _;
    len = rw there at takes.len;
    block = ap (λ t. t.block) takes.becomes.table;
    places = takes.becomes.places;
    credit = takes.becomes.costs.credit;
    frame = rw takes.becomes.table takes.becomes.frame;
  }

module _ {item : Ghosts Entry} (old : View) {s : Scopes} (n : ℕ) {e : Entry} (held : IsTableIn item old.memory s)
    (last : s.pairs.raw.len ≡ n + 1) (there : slice_get (entries_in item old.memory s) n ≡ Some e) (fits : e.0 < 2 ^ 32) where
  abbrev entries : List Entry
  entries = entries_in item old.memory s

  abbrev older : List Entry
  older = reverse (take n (entries_in item old.memory s))

  -- the entries are the last one and the ones before it
  recent_are : recent_in item old.memory s ≡ e ∷ older
  recent_are = reverse_last entries n e (length-elements _ _ _ _ ∙ last) there

  was : IsTableOf item old.memory s (e ∷ older) (starts_in old.memory s)
  was = subst (λ (es : List Entry). IsTableOf item old.memory s es (starts_in old.memory s)) recent_are held

  length_older : length older ≡ n
  length_older = simp (length-reverse, length-take, length-elements) (omega (arith, last))

  pub is_there : has (map_in id_kind old.memory s.newest) (to_le_bytes w32 e.0) ≡ true
  is_there = grind (arith, nat_tests, was.places e.0 fits)

  -- The list's end is cut off, and its id gets what was hidden.
  pub undone : (new : View) (w : HashMap ℕ ℕ FxHasher) (u : Vec Entry) → s.start < s.pairs.raw.len
      → Becomes item old old s.pairs (take n entries) u → Unhides old new s.newest e.0 e.1.1 w
      → Cuts item old new s (record s { newest = w; pairs = u }) n
  undone new w u inner is shown =
      let vec = vec_beside shown.frame item u is.held
      (rw is.block (blocks_turned s.newest.table.block s.pairs.raw.block held.apart.0.0, tt)) in
      let starts = vec_beside shown.frame place_item s.starts held.starts
      (blocks_turned s.newest.table.block s.starts.raw.block held.apart.0.1.0, tt) in
      let after = record s { newest = w; pairs = u } in
      let same : entries_in item new.memory after ≡ take n entries = vec.list_is ∙ is.list_is in
      let starts_are : starts_in new.memory s ≡ starts_in old.memory s = ap reverse starts.list_is in
      let len : u.raw.len ≡ n = is.len ∙ simp (length-take, length-elements) (omega (arith, last)) in
      let less = credit_less 16 u.raw.len s.pairs.raw.len s.pairs.raw.cap u.raw.cap (omega (arith, len, last)) (omega (arith, is.cap)) in
      let table : IsTableOf item new.memory after older (starts_in old.memory s) = record {
        ids = shown.held;
        pairs = vec.held;
        starts = starts.held;
        apart = (
          (all_turned (u.raw.block ∷ s.starts.raw.block ∷ []) (w.table.block ∷ []) (vec.apart, (starts.apart, tt))).0,
          rw is.block held.apart.1,
        );
        places = λ q low. shown.values q low ∙ (λ i. cond (ids_equal q e.0 low fits i) e.1.1 (was.places q low i))
            ∙ grind (arith, nat_tests, was.hidden.0);
        hidden = was.hidden.1;
        begins = less_starts (length (e ∷ older)) (length older) (starts_in old.memory s)
            (omega (arith, inner, held.start, last, length_older)) was.begins;
        start = held.start;
        depth = held.depth;
        count = omega (arith, shown.len, was.count);
      } in
      let blocks : table_blocks after ≡ table_blocks s =
      λ i. shown.block i ∷ is.block i ∷ s.starts.raw.block ∷ [] in
      let frame : Frame old.memory new.memory (table_blocks s) (table_blocks after) =
      rw is.block (frame_beside old.memory new.memory _ _ (s.pairs.raw.block ∷ s.starts.raw.block ∷ []) shown.frame) in
      grind (
        arith,
        table_of (ap reverse same) starts_are table,
        same,
        len,
        starts_are,
        blocks,
        shown.places,
        shown.credit,
        less,
        frame,
      )

-- ---- Pairs after pairs

pub cut_none : {item : Ghosts Entry} {n : ℕ} (old : View) (s : Scopes) → s.pairs.raw.len ≡ n → IsTableIn item old.memory s
    → Cuts item old old s s n
cut_none {item} {n} old s is held = grind (arith, nat_tests, take_all, length-elements, frame_reflexive)

pub cut_then : {item : Ghosts Entry} {old mid new : View} {s t u : Scopes} {n k m : ℕ} → k ≡ m → m ≤ n → Cuts item old mid s t n
    → Cuts item mid new t u k → Cuts item old new s u m
cut_then {item = item} {old = old} {mid = mid} {new = new} {s = s} {n = n} {m = m} is le first last =
    let entries = last.entries ∙ (λ i. take (is i) (first.entries i)) ∙ take-take m n (entries_in item old.memory s) le in
    let frame = frame_then _ _ _ _ _ _ first.frame last.frame in
    grind (arith, is, first, last, entries, last.blocks ∙ first.blocks, same_then old mid new first.places last.places, frame)
