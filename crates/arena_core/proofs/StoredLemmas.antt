-- What the fields of an arena represent.
use Rattle.std.proofs.Common.{◌≡◌, ℕ, ◌+◌, ◌-◌, ◌<◌, ◌≤◌, ◌^◌, min, ap, sym, refl, subst, arith, List, [], ◌∷◌, false, Bool, length, eqb-true, eq-eqb, map, inl, inr, ◌⊎◌, sum, sum_by, Option, Some, true, leb-true}
use Rattle.std.specs.Prelude.{◌==◌, ◌||◌}
use Rattle.std.specs.List.{All, list_any}
use Rattle.std.proofs.lemmas.Bool.{cases_Bool}
use Rattle.std.proofs.lemmas.Bool.Decides.{nat_tests}
use Rattle.std.proofs.lemmas.List.Sums.{sum-map, sum_by-cons}
use Rattle.std.proofs.lemmas.List.Elements.{All-nil, All-cons, All-head, All-tail}
use Rattle.std.proofs.lemmas.Option.{cond_some}
use Rattle.std.proofs.lemmas.Simd.{map-map}
use Rattle.arena_rules.specs.State.{State, Chunk, AreChunks, IsChunk, IsValid, start_of, cursor_of, top_of, floor_of, with_cursor, used_length, is_used_by, is_range_used}
use Rattle.arena_rules.specs.Search.{place, place_below}
use Rattle.arena_rules.proofs.ResetLemmas.{reset_valid}
use Rattle.arena_store.specs.Memory.{Memory}
use Rattle.arena_region.specs.Bytes.{bytes}
use Rattle.arena_store.specs.Stored.{stored_chunk, floor_in, memory_of, IsReady, IsNone, IsStored, IsOrdered}
use Rattle.arena_store.specs.declared.chunk.StoredChunk.{StoredChunk}
use Rattle.arena_core.specs.declared.arena.Arena.TheInside.{Inside}
use Rattle.arena_store.proofs.TableLemmas.{chunks_in}

-- the memory of an open arena, also with other chunks
abbrev pub view_with : (m : ℕ) → Inside m → StoredChunk → List StoredChunk → Memory
view_with m a newest older = memory_of m a.is_growing a.generation a.allocations a.reallocations newest older

abbrev pub view_of : (m : ℕ) → Inside m → Memory
view_of m a = view_with m a a.newest a.older.items

abbrev pub Stands : (m : ℕ) → Inside m → Type 0
Stands m a = IsStored (view_of m a) a.newest a.older.items

chunks_ordered : (m : ℕ) (chunks : List StoredChunk) → AreChunks m (chunks_in chunks) → floor_of (chunks_in chunks) < 2 ^ 64
    → All IsReady chunks → All IsOrdered chunks
chunks_ordered m [] valid below ready = All-nil IsOrdered
chunks_ordered m (newest ∷ older) valid below ready =
    All-cons IsOrdered newest older (record { low = All-head IsReady newest older ready; high = valid.0.cursor_high; fits = omega arith })
    (chunks_ordered m older valid.2 (omega (arith, valid.1, valid.0.cursor_low, valid.0.cursor_high)) (All-tail IsReady newest older ready))

-- a sum of numbers that are at most the sizes fits in 64 bits
sum_fits : (f : Chunk → ℕ) (memory : Memory) → IsValid memory.state → ((c : Chunk) → IsChunk memory.state.min_align c → f c ≤ c.size)
    → sum (map f memory.state.chunks) < 2 ^ 64
sum_fits f memory valid small = omega (arith, sum-map f memory.state.chunks, go memory.state.chunks valid.chunks, valid.top)
  where
    go : (chunks : List Chunk) → AreChunks memory.state.min_align chunks → sum_by f chunks ≤ floor_of chunks
    go [] fine = omega arith
    go (newest ∷ older) fine = omega (arith, sum_by-cons f newest older, go older fine.2, small newest fine.0, fine.1)

any_mapped : (p : Chunk → Bool) (chunks : List StoredChunk) → list_any p (chunks_in chunks) ≡ list_any (λ c. p (stored_chunk c)) chunks
any_mapped p [] = refl
any_mapped p (x ∷ xs) = ap (λ (b : Bool). p (stored_chunk x) || b) (any_mapped p xs)

-- where the newest cursor may be moved
pub record IsCursor (state : State) (q : ℕ) : Type 0 where
  pub low : start_of state.chunks ≤ q
  pub high : q ≤ top_of state.chunks
  pub valid : IsValid (with_cursor q state)

-- a valid state is valid in any generation
at_generation : (state : State) (generation : ℕ) → generation ≤ 2 ^ 64 - 1 → IsValid state
    → IsValid (record state { generation = generation })
at_generation state generation small valid = grind (arith, nat_tests)

pub differs : (n : ℕ) → (n == 16) ≡ false → n ≡ 16 → ⊥
differs n test same = grind (arith, nat_tests)

module _ (m : ℕ) (a : Inside m) where
  -- whether there is a chunk
  pub kind : Stands m a → (((a.newest.base == 16) ≡ true) × (a.newest.base ≡ 16) × IsNone a.newest a.older.items)
      ⊎ ((a.newest.base == 16) ≡ false)
  kind stands = grind (arith, nat_tests, cases_Bool, eqb-true)

  -- ---- Each chunk's numbers are in order

  pub newest_ordered : Stands m a → IsOrdered a.newest
  newest_ordered stands = grind (arith, nat_tests)

  pub older_ordered : Stands m a → All IsOrdered a.older.items
  older_ordered stands = elim (kind stands) [
    | inl none ↦ subst (All IsOrdered) (sym none.2.older) (All-nil IsOrdered)
    | inr some ↦
        let valid = rw some at stands.valid in
        chunks_ordered m a.older.items valid.chunks.2
        (omega (arith, valid.top, valid.chunks.1, valid.chunks.0.cursor_low, valid.chunks.0.cursor_high)) stands.older_ready
  ]

  -- ---- Sums over all chunks

  -- a sum over all chunks is that of the newest and of the table
  pub sum_all : (memory : Memory) (f : Chunk → ℕ) → Stands m a → view_of m a ≡ memory → (a.newest.base ≡ 16 → f (stored_chunk a.newest) ≡ 0)
      → f (stored_chunk a.newest) + sum_by (λ c. f (stored_chunk c)) a.older.items ≡ sum (map f memory.state.chunks)
  sum_all memory f stands view h = grind (arith, nat_tests, sum_by, map-map, sum-map, sum_by-cons)

  -- a sum over the newest and the table fits in 64 bits, if its terms are at most the sizes
  pub sum_has : (f : Chunk → ℕ) → Stands m a → (a.newest.base ≡ 16 → f (stored_chunk a.newest) ≡ 0)
      → ((c : Chunk) → IsChunk m c → f c ≤ c.size)
      → f (stored_chunk a.newest) + sum_by (λ c. f (stored_chunk c)) a.older.items < 2 ^ 64
  sum_has f stands none small = omega (arith, sum_all (view_of m a) f stands refl none, sum_fits f (view_of m a) stands.valid small)

  pub none_used : Stands m a → a.newest.base ≡ 16 → used_length (stored_chunk a.newest) ≡ 0
  none_used stands none = omega (arith, (stands.none none).cursor, ap length (stands.none none).bytes)

  -- ---- Ranges in use

  -- a range is used by the newest chunk or by one of the table
  pub used_all : (memory : Memory) (addr n : ℕ) → Stands m a → view_of m a ≡ memory → 0 < n
      → (is_used_by addr n (stored_chunk a.newest) || list_any (λ c. is_used_by addr n (stored_chunk c)) a.older.items)
      ≡ is_range_used memory.state.chunks addr n
  used_all memory addr n stands view some =
      subst (λ (w : Memory). (is_used_by addr n (stored_chunk a.newest) || list_any (λ c. is_used_by addr n (stored_chunk c)) a.older.items)
      ≡ is_range_used w.state.chunks addr n) view
      (elim (kind stands) [
        | inl none ↦
            let empty : is_used_by addr n (stored_chunk a.newest) ≡ false = nothing none.1 none.2 in
            rw (none.0, none.2.older, empty) refl
        | inr chunk ↦
            rw chunk (ap (λ (b : Bool). is_used_by addr n (stored_chunk a.newest) || b) (sym (any_mapped (is_used_by addr n) a.older.items)))
      ])
    where
      nothing : a.newest.base ≡ 16 → IsNone a.newest a.older.items → is_used_by addr n (stored_chunk a.newest) ≡ false
      nothing base is = let cursor = is.cursor in let size = ap length is.bytes in grind (arith, nat_tests)

  -- ---- Moves

  -- the place in terms of the fields is the state's
  pub place_stored : (memory : Memory) (size align : ℕ) (found : Option ℕ) → Stands m a → view_of m a ≡ memory
      → found ≡ place_below a.newest.base a.newest.cursor size align m → place memory.state size align ≡ found
  place_stored memory size align found stands view is = grind (arith, nat_tests)

  -- a place in the ready part is the state's, and ready
  pub place_ready : (memory : Memory) (size align p : ℕ) → Stands m a → view_of m a ≡ memory
      → Some p ≡ place_below (floor_in a.newest) a.newest.cursor size align m → (place memory.state size align ≡ Some p)
      × (floor_in a.newest ≤ p)
  place_ready memory size align p stands view found = grind (arith, nat_tests, cond_some, leb-true)

  pub cursor_stored : (memory : Memory) → Stands m a → view_of m a ≡ memory → a.newest.cursor ≡ cursor_of memory.state.chunks
  cursor_stored memory stands view = grind (arith, nat_tests)

  pub start_stored : (memory : Memory) → Stands m a → view_of m a ≡ memory → a.newest.base ≡ start_of memory.state.chunks
  start_stored memory stands view = grind (arith, nat_tests)

  -- the newest chunk with another cursor, and ready from another index on
  abbrev pub moved_chunk : ℕ → ℕ → StoredChunk
  moved_chunk q low = record { base = a.newest.base; cursor = q; bytes = bytes a.newest.bytes.items low }

  pub cursor_view : (memory : Memory) (q low : ℕ) → view_of m a ≡ memory
      → view_with m a (moved_chunk q low) a.older.items ≡ record {
        state = with_cursor q memory.state;
        statistics = memory.statistics;
        bytes = memory.bytes;
      }
  cursor_view memory q low view = grind (arith, nat_tests, cases_Bool)

  pub cursor_moved : (memory : Memory) (q low generation allocations reallocations : ℕ) → Stands m a → view_of m a ≡ memory
      → IsCursor memory.state q → generation ≤ 2 ^ 64 - 1 → a.newest.base + low ≤ q
      → IsStored (memory_of m a.is_growing generation allocations reallocations (moved_chunk q low) a.older.items)
      (moved_chunk q low) a.older.items
  cursor_moved memory q low generation allocations reallocations stands view moved small ready =
      grind (arith, nat_tests, at_generation, eq-eqb)

  -- ---- A reset

  -- the newest chunk alone, with nothing used
  pub emptied_stored : (generation size : ℕ) (older : List StoredChunk) → Stands m a → generation ≡ min (a.generation + 1) (2 ^ 64 - 1)
      → size ≡ length a.newest.bytes.items → older ≡ []
      → IsStored (memory_of m a.is_growing generation 0 0 (record a.newest { cursor = a.newest.base + size }) older)
      (record a.newest { cursor = a.newest.base + size }) older
  emptied_stored generation size older stands next sized none =
      let valid = reset_valid (view_of m a).state stands.valid in
      let ready : floor_in a.newest ≤ a.newest.base + length a.newest.bytes.items =
      omega (arith, stands.ready, (newest_ordered stands).high) in
      rw (next, sized, none) (record {
        valid = elim (kind stands) [ inl empty ↦ rw empty.0 (rw empty.0 at valid) | inr some ↦ rw some (rw some at valid) ];
        none = λ same.
            let is = stands.none same in record { cursor = omega (arith, same, ap length is.bytes); bytes = is.bytes; older = refl };
        ready = ready;
        older_ready = All-nil IsReady;
      })
