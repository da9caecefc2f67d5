-- The chunk of a table that has an address.
use Rattle.std.proofs.Common.{◌≡◌, ℕ, zero, suc, ◌+◌, ◌-◌, ◌<◌, ◌≤◌, ap, sym, refl, subst, ◌∙◌, arith, List, [], ◌∷◌, true, false, Bool, length, get_or, take, drop, inl, inr, ◌⊎◌}
use Rattle.std.specs.Prelude.{nat_le, slice_index, slice_set, if◌then◌else◌, Some, None}
use Rattle.std.proofs.lemmas.Bool.Decides.{nat_tests}
use Rattle.std.proofs.lemmas.List.Elements.{All-set}
use Rattle.std.proofs.lemmas.List.{length-set, length-drop}
use Rattle.arena_store.specs.Chunks.{Chunks}
use Rattle.arena_store.specs.Copies.{kept_with, HasBytes}
use Rattle.arena_store.specs.Stored.{with_part, HasPart, HasPartIn, part_in, with_part_in}
use Rattle.arena_store.specs.Table.{chunk_of, chunks_onto, IsKept, IsTable, IsSplit, HasBelow, IsLastBelow, number_in}
use Rattle.arena_store.specs.declared.chunk.StoredChunk.{StoredChunk}
use Rattle.arena_store.specs.declared.table.Kept.{Kept}
use Rattle.arena_store.proofs.WrittenFrom.{length-written}
use Rattle.arena_store.proofs.KeptLemmas.{items_is, items_length, oldest_is}
use Rattle.arena_store.proofs.TableLemmas.{first_part, first_with, others_part, others_with}

module _ (addr : ℕ) where
  last_rest : (b : ℕ) (bases : List ℕ) (i : ℕ) → IsLastBelow (b ∷ bases) addr (suc i) → IsLastBelow bases addr i
  last_rest b bases i last = record {
    within = omega (arith, last.within);
    low = last.low;
    above = λ k after below. last.above (suc k) (omega (arith, after)) (omega (arith, below));
  }

  rest_above : (b : ℕ) (bases : List ℕ) → IsLastBelow (b ∷ bases) addr zero → (k : ℕ) → k < length bases → addr < slice_index bases k
  rest_above b bases last k below = last.above (suc k) (omega arith) (omega (arith, below))

  -- ---- Which chunk it is

  -- What passes over the chunks above the address is decided by the last that isn't.
  module _ {X : Type 0} (f : List StoredChunk → X)
      (skips : (c : StoredChunk) (older : List StoredChunk) → addr < c.base → f (c ∷ older) ≡ f older) where
    skipped : (older : List StoredChunk) (bases : List ℕ) (kept : List Kept) → length bases ≡ length kept
        → ((k : ℕ) → k < length bases → addr < slice_index bases k) → f (chunks_onto older bases kept) ≡ f older
    skipped older [] kept same above = refl
    skipped older (b ∷ bases) [] same above = absurd (omega (arith, same))
    skipped older (b ∷ bases) (k ∷ kept) same above =
        skipped (chunk_of b k ∷ older) bases kept (omega (arith, same)) (λ j below. above (suc j) (omega (arith, below)))
        ∙ skips (chunk_of b k) older (above 0 (omega arith))

    decided : (i : ℕ) (older : List StoredChunk) (bases : List ℕ) (kept : List Kept) (k : Kept) → length bases ≡ length kept
        → IsLastBelow bases addr i → k ≡ get_or kept i k
        → f (chunks_onto older bases kept) ≡ f (chunk_of (slice_index bases i) k ∷ chunks_onto older (take i bases) (take i kept))
    decided i older [] kept k same last at = absurd (omega (arith, last.within))
    decided i older (b ∷ bases) [] k same last at = absurd (omega (arith, same))
    decided zero older (b ∷ bases) (x ∷ kept) k same last at =
        skipped (chunk_of b x ∷ older) bases kept (omega (arith, same)) (rest_above b bases last)
        ∙ ap (λ (y : Kept). f (chunk_of b y ∷ older)) (sym at)
    decided (suc i) older (b ∷ bases) (x ∷ kept) k same last at =
        decided i (chunk_of b x ∷ older) bases kept k (omega (arith, same)) (last_rest b bases i last) at

  number_past : (c : StoredChunk) (older : List StoredChunk) → addr < c.base → number_in addr (c ∷ older) ≡ number_in addr older
  number_past c older above = let test : nat_le c.base addr ≡ false = grind (arith, nat_tests) in rw test refl

  none_below : (bases : List ℕ) (kept : List Kept) → length bases ≡ length kept
      → ((k : ℕ) → k < length bases → addr < slice_index bases k) → number_in addr (chunks_onto [] bases kept) ≡ None
  none_below bases kept same above = skipped (number_in addr) number_past [] bases kept same above

  number_at : (bases : List ℕ) (kept : List Kept) (i : ℕ) (k : Kept) → IsTable bases kept → IsLastBelow bases addr i → k ≡ get_or kept i k
      → number_in addr (chunks_onto [] bases kept)
      ≡ (if nat_le addr (slice_index bases i + length k.bytes.items) then Some i else None)
  number_at bases kept i k table last at =
      let low = last.low in
      let test : nat_le (slice_index bases i) addr ≡ true = grind (arith, nat_tests) in
      let before : i ≤ length kept = omega (arith, last.within, table.pairs) in
      let older : length (chunks_onto [] (take i bases) (take i kept)) ≡ i = ap length (sym (oldest_is bases kept 0 _ table refl i before))
      ∙ length-drop (length (chunks_onto [] bases kept) - i) (chunks_onto [] bases kept)
      ∙ omega (arith, items_length bases kept 0 _ table refl, before) in
      decided (number_in addr) number_past i [] bases kept k table.pairs last at ∙ rw (test, older) refl

  part_at : (n : ℕ) (bases : List ℕ) (kept : List Kept) (i : ℕ) (k : Kept) → length bases ≡ length kept → IsLastBelow bases addr i
      → k ≡ get_or kept i k
      → part_in (chunks_onto [] bases kept) addr n ≡ take n (drop (addr - slice_index bases i) k.bytes.items)
  part_at n bases kept i k same last at =
      decided (λ l. part_in l addr n) (λ c older above. others_part c older addr above n) i [] bases kept k same last at
      ∙ first_part (chunk_of (slice_index bases i) k) (chunks_onto [] (take i bases) (take i kept)) addr last.low n

  -- ---- A part in use

  any_below : (n : ℕ) (older : List StoredChunk) (bases : List ℕ) (kept : List Kept) → length bases ≡ length kept
      → HasPartIn (chunks_onto older bases kept) addr n → HasPartIn older addr n ⊎ HasBelow bases addr
  any_below n older [] kept same has = inl has
  any_below n older (b ∷ bases) [] same has = absurd (omega (arith, same))
  any_below n older (b ∷ bases) (k ∷ kept) same has = elim (any_below n (chunk_of b k ∷ older) bases kept (omega (arith, same)) has) [
    | inl here ↦ elim here [ inl at ↦ inr (0, omega arith, at.0) | inr past ↦ inl past.1 ]
    | inr more ↦ inr (suc more.0, omega (arith, more.1), more.2)
  ]

  has_at : (n i : ℕ) (older : List StoredChunk) (bases : List ℕ) (kept : List Kept) (k : Kept) → length bases ≡ length kept
      → IsLastBelow bases addr i → k ≡ get_or kept i k → HasPartIn (chunks_onto older bases kept) addr n
      → HasPart (chunk_of (slice_index bases i) k) addr n
  has_at n i older [] kept k same last at has = absurd (omega (arith, last.within))
  has_at n i older (b ∷ bases) [] k same last at has = absurd (omega (arith, same))
  has_at n zero older (b ∷ bases) (x ∷ kept) k same last at has =
      let low : b ≤ addr = last.low in
      elim (any_below n (chunk_of b x ∷ older) bases kept (omega (arith, same)) has) [
        | inl here ↦ elim here [
          | inl is ↦ subst (λ (y : Kept). HasPart (chunk_of b y) addr n) (sym at) is.1
          | inr past ↦ absurd (omega (arith, past.0, low))
        ]
        | inr more ↦ absurd (omega (arith, more.2, rest_above b bases last more.0 more.1))
      ]
  has_at n (suc i) older (b ∷ bases) (x ∷ kept) k same last at has =
      has_at n i (chunk_of b x ∷ older) bases kept k (omega (arith, same)) (last_rest b bases i last) at has

  -- ---- A part that is written

  with_past : (list : List ℕ) (older : List StoredChunk) (bases : List ℕ) (kept : List Kept) → length bases ≡ length kept
      → ((k : ℕ) → k < length bases → addr < slice_index bases k)
      → with_part_in (chunks_onto older bases kept) addr list ≡ chunks_onto (with_part_in older addr list) bases kept
  with_past list older [] kept same above = refl
  with_past list older (b ∷ bases) [] same above = absurd (omega (arith, same))
  with_past list older (b ∷ bases) (k ∷ kept) same above =
      with_past list (chunk_of b k ∷ older) bases kept (omega (arith, same)) (λ j below. above (suc j) (omega (arith, below)))
      ∙ ap (λ (l : List StoredChunk). chunks_onto l bases kept) (others_with (chunk_of b k) older addr (above 0 (omega arith)) list)

  with_at : (list : List ℕ) (i : ℕ) (older : List StoredChunk) (bases : List ℕ) (kept : List Kept) (k : Kept) → length bases ≡ length kept
      → IsLastBelow bases addr i → k ≡ get_or kept i k → addr - slice_index bases i ≤ length k.bytes.items
      → chunks_onto older bases (slice_set kept i (kept_with k (addr - slice_index bases i) list))
      ≡ with_part_in (chunks_onto older bases kept) addr list
  with_at list i older [] kept k same last at fits = absurd (omega (arith, last.within))
  with_at list i older (b ∷ bases) [] k same last at fits = absurd (omega (arith, same))
  with_at list zero older (b ∷ bases) (x ∷ kept) k same last at fits =
      let sized = length-written k.bytes.items list (addr - b) fits in
      let chunk : chunk_of b (kept_with k (addr - b) list) ≡ with_part (chunk_of b x) addr list = rw (sized, at) refl in
      sym (with_past list (chunk_of b x ∷ older) bases kept (omega (arith, same)) (rest_above b bases last)
      ∙ ap (λ (l : List StoredChunk). chunks_onto l bases kept)
      (first_with (chunk_of b x) older addr last.low list ∙ ap (λ (c : StoredChunk). c ∷ older) (sym chunk)))
  with_at list (suc i) older (b ∷ bases) (x ∷ kept) k same last at fits =
      with_at list i (chunk_of b x ∷ older) bases kept k (omega (arith, same)) (last_rest b bases i last) at fits

pub table_with : (bases : List ℕ) (kept : List Kept) (i at : ℕ) (k : Kept) (list : List ℕ) → IsTable bases kept → i < length bases
    → k ≡ get_or kept i k → at ≤ length k.bytes.items → IsTable bases (slice_set kept i (kept_with k at list))
table_with bases kept i at k list table below here fits =
    let sized = length-written k.bytes.items list at fits in
    let fine : IsKept k = subst IsKept (sym here) (table.used i k (omega (arith, below, table.pairs))) in
    record {
      pairs = table.pairs ∙ sym (length-set kept i (kept_with k at list));
      used = All-set IsKept kept i (kept_with k at list) (omega (arith, sized, fine)) table.used;
    }

-- ---- The chunk that a search returns

module _ (bases : List ℕ) (kept : List Kept) (spare : ℕ) (t : Chunks) (table : IsTable bases kept)
    (view : record { items = chunks_onto [] bases kept; spare = spare } ≡ t) where
  -- some begins at or below an address in use
  pub has_below_in : (addr n : ℕ) → HasPartIn t.items addr n → HasBelow bases addr
  has_below_in addr n has = grind (arith, nat_tests, any_below, items_is)

  -- no chunk has an address that is below them all
  pub no_number : (addr : ℕ) → IsSplit bases addr 0 → number_in addr t.items ≡ None
  no_number addr is = grind (arith, nat_tests, items_is, none_below)

module _ (bases : List ℕ) (kept : List Kept) (spare : ℕ) (t : Chunks) (table : IsTable bases kept)
    (view : record { items = chunks_onto [] bases kept; spare = spare } ≡ t) (addr i at : ℕ) (last : IsLastBelow bases addr i)
    (offset : at ≡ addr - slice_index bases i) where
  same : chunks_onto [] bases kept ≡ t.items
  same = items_is bases kept spare t table view

  pub found_number : (k : Kept) → k ≡ get_or kept i k
      → number_in addr t.items ≡ (if nat_le at (length k.bytes.items) then Some i else None)
  found_number k here =
      let low = last.low in
      let test : nat_le addr (slice_index bases i + length k.bytes.items) ≡ nat_le at (length k.bytes.items) =
      rw offset (grind (arith, nat_tests)) in
      ap (number_in addr) (sym same) ∙ number_at addr bases kept i k table last here
      ∙ ap (λ (b : Bool). if b then Some i else None) test

  module _ (n : ℕ) (has : HasPartIn t.items addr n) where
    pub found_bytes : HasBytes kept i at n
    found_bytes = record {
      within = omega (arith, last.within, table.pairs);
      ready = λ k here. let is = found k here in omega (arith, offset, is.ready, is.used, last.low);
      range = λ k here. let is = found k here in omega (arith, offset, is.high, last.low);
    }
      where
        found : (k : Kept) → k ≡ get_or kept i k → HasPart (chunk_of (slice_index bases i) k) addr n
        found k here = has_at addr n i [] bases kept k table.pairs last here (subst (λ (l : List StoredChunk). HasPartIn l addr n) (sym same) has)

    pub found_part : (k : Kept) (list : List ℕ) → k ≡ get_or kept i k → list ≡ take n (drop at k.bytes.items) → list ≡ part_in t.items addr n
    found_part k list here is = grind (arith, nat_tests, part_at, same)

    pub found_with : (k : Kept) (list : List ℕ) → k ≡ get_or kept i k
        → chunks_onto [] bases (slice_set kept i (kept_with k at list)) ≡ with_part_in t.items addr list
    found_with k list here =
        ap (λ (j : ℕ). chunks_onto [] bases (slice_set kept i (kept_with k j list))) offset
        ∙ with_at addr list i [] bases kept k table.pairs last here (omega (arith, offset, found_bytes.range k here))
        ∙ ap (λ (l : List StoredChunk). with_part_in l addr list) same

    pub found_table : (k : Kept) (list : List ℕ) → k ≡ get_or kept i k → IsTable bases (slice_set kept i (kept_with k at list))
    found_table k list here = table_with bases kept i at k list table last.within here (omega (arith, found_bytes.range k here))
