-- The table of the chunks but the newest, by its parts.
use Rattle.std.proofs.lemmas.Bool.Decides.{nat_tests}
use Rattle.std.proofs.Common.{◌≡◌, ℕ, zero, suc, ◌+◌, ◌-◌, ◌<◌, ◌≤◌, ap, sym, refl, subst, ◌∙◌, arith, List, [], ◌∷◌, ◌++◌, true, Bool, length, get_or, take, take_all, drop, length-take, min}
use Rattle.std.specs.Prelude.{slice_index}
use Rattle.std.specs.List.{All, list_any, sum_by}
use Rattle.std.proofs.lemmas.Bool.{or_right}
use Rattle.std.proofs.lemmas.List.Elements.{All-head, All-tail, All-push, All-take, All-drop}
use Rattle.std.proofs.lemmas.List.Sums.{sum_by-cons, sum_by_more_le}
use Rattle.std.proofs.lemmas.List.{length-append, get_or_default}
use Rattle.arena_rules.specs.State.{used_length}
use Rattle.arena_region.specs.Bytes.{bytes}
use Rattle.arena_store.specs.Chunks.{Chunks}
use Rattle.arena_store.specs.Stored.{stored_chunk, IsOrdered, IsTopmost, oldest, IsOldest}
use Rattle.arena_store.specs.Table.{chunk_of, chunks_onto, IsKept, IsTable}
use Rattle.arena_store.specs.declared.chunk.StoredChunk.{StoredChunk}
use Rattle.arena_store.specs.declared.table.Kept.{Kept}

-- ---- Lists of pairs

chunks_length : (older : List StoredChunk) (bases : List ℕ) (kept : List Kept) → length bases ≡ length kept
    → length (chunks_onto older bases kept) ≡ length kept + length older
chunks_length older [] [] same = omega arith
chunks_length older [] (k ∷ kept) same = absurd (omega (arith, same))
chunks_length older (b ∷ bases) [] same = absurd (omega (arith, same))
chunks_length older (b ∷ bases) (k ∷ kept) same = omega (arith, chunks_length (chunk_of b k ∷ older) bases kept (omega (arith, same)))

pub chunks_push : (older : List StoredChunk) (bases : List ℕ) (kept : List Kept) (base : ℕ) (k : Kept) → length bases ≡ length kept
    → chunks_onto older (bases ++ base ∷ []) (kept ++ k ∷ []) ≡ chunk_of base k ∷ chunks_onto older bases kept
chunks_push older [] [] base k same = refl
chunks_push older [] (x ∷ kept) base k same = absurd (omega (arith, same))
chunks_push older (b ∷ bases) [] base k same = absurd (omega (arith, same))
chunks_push older (b ∷ bases) (x ∷ kept) base k same = chunks_push (chunk_of b x ∷ older) bases kept base k (omega (arith, same))

-- a chunk whose cursor is within it is given by its parts
chunk_kept : (c : StoredChunk) (used : ℕ) → IsOrdered c → used ≡ used_length (stored_chunk c)
    → c ≡ chunk_of c.base (record { bytes = c.bytes; used = used })
chunk_kept c used ordered is = grind (arith, nat_tests)

chunks_past : (n : ℕ) (older : List StoredChunk) (bases : List ℕ) (kept : List Kept) → length bases ≡ length kept
    → drop (length kept + n) (chunks_onto older bases kept) ≡ drop n older
chunks_past n older [] [] same = ap (λ (j : ℕ). drop j older) (omega arith)
chunks_past n older [] (k ∷ kept) same = absurd (omega (arith, same))
chunks_past n older (b ∷ bases) [] same = absurd (omega (arith, same))
chunks_past n older (b ∷ bases) (k ∷ kept) same =
    ap (λ (j : ℕ). drop j (chunks_onto (chunk_of b k ∷ older) bases kept)) (omega arith)
    ∙ chunks_past (suc n) (chunk_of b k ∷ older) bases kept (omega (arith, same))

chunks_take : (n : ℕ) (older : List StoredChunk) (bases : List ℕ) (kept : List Kept) → length bases ≡ length kept → n ≤ length kept
    → drop (length kept - n) (chunks_onto older bases kept) ≡ chunks_onto older (take n bases) (take n kept)
chunks_take zero older bases kept same within =
    ap (λ (j : ℕ). drop j (chunks_onto older bases kept)) (omega arith) ∙ chunks_past 0 older bases kept same
chunks_take (suc n) older bases [] same within = absurd (omega (arith, within))
chunks_take (suc n) older [] (k ∷ kept) same within = absurd (omega (arith, same))
chunks_take (suc n) older (b ∷ bases) (k ∷ kept) same within =
    ap (λ (j : ℕ). drop j (chunks_onto (chunk_of b k ∷ older) bases kept)) (omega arith)
    ∙ chunks_take n (chunk_of b k ∷ older) bases kept (omega (arith, same)) (omega (arith, within))

chunks_next : (i : ℕ) (older : List StoredChunk) (bases : List ℕ) (kept : List Kept) (k : Kept) → length bases ≡ length kept
    → i < length kept → k ≡ get_or kept i k
    → chunks_onto older (take (suc i) bases) (take (suc i) kept)
    ≡ chunk_of (slice_index bases i) k ∷ chunks_onto older (take i bases) (take i kept)
chunks_next i older bases [] k same below at = absurd (omega (arith, below))
chunks_next i older [] (x ∷ kept) k same below at = absurd (omega (arith, same))
chunks_next zero older (b ∷ bases) (x ∷ kept) k same below at = ap (λ (y : Kept). chunk_of b y ∷ older) (sym at)
chunks_next (suc i) older (b ∷ bases) (x ∷ kept) k same below at =
    chunks_next i (chunk_of b x ∷ older) bases kept k (omega (arith, same)) (omega (arith, below)) at

-- the item at an index, whatever the default is
pub item_at : {X : Type 0} (xs : List X) (i : ℕ) (d : X) → i < length xs → get_or xs i d ≡ get_or xs i (get_or xs i d)
item_at xs i d below = get_or_default xs i d (get_or xs i d) below

nothing : Kept
nothing = record { bytes = bytes [] 0; used = 0 }

-- ---- A table

module _ (bases : List ℕ) (kept : List Kept) (spare : ℕ) (t : Chunks) (table : IsTable bases kept)
    (view : record { items = chunks_onto [] bases kept; spare = spare } ≡ t) where
  pub items_is : chunks_onto [] bases kept ≡ t.items
  items_is = ap (λ (t : Chunks). t.items) view

  pub items_length : length t.items ≡ length kept
  items_length = omega (arith, ap length items_is, chunks_length [] bases kept table.pairs)

  pub oldest_is : (n : ℕ) → n ≤ length kept → oldest n t.items ≡ chunks_onto [] (take n bases) (take n kept)
  oldest_is n within = ap (λ (l : List StoredChunk). drop (length t.items - n) l) (sym items_is)
      ∙ ap (λ (size : ℕ). drop (size - n) (chunks_onto [] bases kept)) items_length ∙ chunks_take n [] bases kept table.pairs within

  is_oldest : (i : ℕ) (k : Kept) → i < length kept → k ≡ get_or kept i k → IsOldest t.items i (chunk_of (slice_index bases i) k)
  is_oldest i k below at =
      ap (λ (j : ℕ). oldest j t.items) (omega arith) ∙ oldest_is (suc i) (omega (arith, below)) ∙ chunks_next i [] bases kept k table.pairs below at
      ∙ ap (λ (l : List StoredChunk). chunk_of (slice_index bases i) k ∷ l) (sym (oldest_is i (omega (arith, below))))

  -- a chunk, by its number
  pub record IsRow (i base : ℕ) (k : Kept) : Type 0 where
    pub chunk : IsOldest t.items i (chunk_of base k)
    pub used : IsKept k
    pub ordered : IsOrdered (chunk_of base k)

  pub is_row : (i base : ℕ) (k : Kept) → All IsOrdered t.items → i < length t.items → base ≡ slice_index bases i → k ≡ get_or kept i k
      → IsRow i base k
  is_row i base k ordered below is at =
      let within : i < length kept = omega (arith, below, items_length) in
      let chunk = subst (λ (b : ℕ). IsOldest t.items i (chunk_of b k)) (sym is) (is_oldest i k within at) in
      record {
        chunk = chunk;
        used = subst IsKept (sym at) (table.used i k within);
        ordered = All-head IsOrdered (chunk_of base k) (oldest i t.items)
            (subst (All IsOrdered) chunk (All-drop IsOrdered (length t.items - (i + 1)) t.items ordered));
      }

  -- ---- A chunk that is added

  pub last_base : (base : ℕ) → IsTopmost base t.items → 0 < length bases → slice_index bases (length bases - 1) < base
  last_base base above some =
      let i : ℕ = length bases - 1 in
      let below : i < length kept = omega (arith, table.pairs, some) in
      let k : Kept = get_or kept i nothing in
      let all : length t.items - (i + 1) ≡ 0 = omega (arith, items_length, table.pairs) in
      subst (IsTopmost base) (ap (λ (j : ℕ). drop j t.items) (sym all) ∙ is_oldest i k below (item_at kept i nothing below)) above

  pub pushed : (chunk : StoredChunk) (used : ℕ) → IsOrdered chunk → used ≡ used_length (stored_chunk chunk)
      → chunks_onto [] (bases ++ chunk.base ∷ []) (kept ++ record { bytes = chunk.bytes; used = used } ∷ []) ≡ chunk ∷ t.items
  pushed chunk used ordered is =
      chunks_push [] bases kept chunk.base (record { bytes = chunk.bytes; used = used }) table.pairs
      ∙ ap (λ (l : List StoredChunk). chunk_of chunk.base (record { bytes = chunk.bytes; used = used }) ∷ l) items_is
      ∙ ap (λ (c : StoredChunk). c ∷ t.items) (sym (chunk_kept chunk used ordered is))

  pub pushed_table : (chunk : StoredChunk) (used : ℕ) → IsOrdered chunk → used ≡ used_length (stored_chunk chunk)
      → IsTable (bases ++ chunk.base ∷ []) (kept ++ record { bytes = chunk.bytes; used = used } ∷ [])
  pushed_table chunk used ordered is = record {
    pairs = omega (
      arith,
      table.pairs,
      length-append bases (chunk.base ∷ []),
      length-append kept (record { bytes = chunk.bytes; used = used } ∷ []),
    );
    used = All-push IsKept kept (record { bytes = chunk.bytes; used = used }) table.used (omega (arith, is, ordered.low, ordered.high));
  }

pub table_take : (n : ℕ) (bases : List ℕ) (kept : List Kept) → IsTable bases kept → IsTable (take n bases) (take n kept)
table_take n bases kept table = record {
  pairs = length-take n bases ∙ ap (min n) table.pairs ∙ sym (length-take n kept);
  used = All-take IsKept n kept table.used;
}

-- ---- Sums

sum_onto : (f : StoredChunk → ℕ) (g : Kept → ℕ) → ((b : ℕ) (k : Kept) → IsKept k → f (chunk_of b k) ≡ g k) → (older : List StoredChunk)
    (bases : List ℕ) (kept : List Kept) → IsTable bases kept → sum_by f (chunks_onto older bases kept) ≡ sum_by g kept + sum_by f older
sum_onto f g each older [] [] table = omega arith
sum_onto f g each older [] (k ∷ kept) table = absurd (omega (arith, table.pairs))
sum_onto f g each older (b ∷ bases) [] table = absurd (omega (arith, table.pairs))
sum_onto f g each older (b ∷ bases) (k ∷ kept) table = omega (
  arith,
  sum_onto f g each (chunk_of b k ∷ older) bases kept
      (record { pairs = omega (arith, table.pairs); used = All-tail IsKept k kept table.used }),
  each b k (All-head IsKept k kept table.used),
  sum_by-cons f (chunk_of b k) older,
  sum_by-cons g k kept,
)

-- a sum over the chunks, read from the table: with the next one, and after the last
module _ (f : StoredChunk → ℕ) (g : Kept → ℕ) (each : (b : ℕ) (k : Kept) → IsKept k → f (chunk_of b k) ≡ g k) (bases : List ℕ)
    (kept : List Kept) (spare : ℕ) (t : Chunks) (table : IsTable bases kept)
    (view : record { items = chunks_onto [] bases kept; spare = spare } ≡ t) (items : List Kept) (same : items ≡ kept) (i : ℕ) where
  pub sum_next : (k : Kept) → i < length items → k ≡ get_or items i k → sum_by g (take i items) + g k ≤ sum_by f t.items
  sum_next k below at = grind (arith, nat_tests, sum_onto, sum_by_more_le)

  pub sum_whole : length items ≤ i → sum_by g (take i items) ≡ sum_by f t.items
  sum_whole over = grind (arith, nat_tests, take_all, sum_onto)

-- ---- Which of them has a block

pub one_has : (p : StoredChunk → Bool) (items : List StoredChunk) (i : ℕ) (c : StoredChunk) → IsOldest items i c → p c ≡ true
    → list_any p items ≡ true
one_has p items i c is passes = later (length items - (i + 1)) items (ap (list_any p) is ∙ rw passes refl)
  where
    later : (n : ℕ) (l : List StoredChunk) → list_any p (drop n l) ≡ true → list_any p l ≡ true
    later zero l found = found
    later (suc n) [] found = found
    later (suc n) (x ∷ l) found = or_right (p x) (list_any p l) (later n l found)
