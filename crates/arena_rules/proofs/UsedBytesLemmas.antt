-- How many bytes of the chunks are used after each move.
use Rattle.std.proofs.Common.{◌≡◌, ℕ, ◌+◌, ◌-◌, ◌%◌, ◌^◌, ◌<◌, ◌≤◌, arith, Some, None, List, [], ◌∷◌, IsTrue, sum, map}
use Rattle.std.specs.Prelude.{MatchOption}
use Rattle.std.proofs.lemmas.List.Sums.{sum_by-cons}
use Rattle.arena_rules.specs.Rounding.{is_power}
use Rattle.arena_rules.specs.State.{State, Chunk, AreChunks, IsValid, start_of, cursor_of, top_of, with_cursor, with_newest_cursor, used_length, used_bytes, allocated_bytes, floor_of}
use Rattle.arena_rules.specs.Search.{place}
use Rattle.arena_rules.specs.Moves.{alloc, with_chunk}
use Rattle.arena_rules.specs.Used.{taken, unit_of, placed_below}
use Rattle.arena_rules.proofs.RoundingLemmas.{down_le, down_close, down_same, difference_multiple, power_multiple, max_power, pow_power, min_align_power, min_align_le, min_align_positive, layout_power}
use Rattle.arena_rules.proofs.CursorLemmas.{cursor_within, top_units}
use Rattle.arena_rules.proofs.AllocLemmas.{alloc_valid_each}
use Rattle.arena_rules.proofs.NewBlockLemmas.{alloc_valid, alloc_failed}

-- ---- How much a cursor moves

-- by the size alone, from a multiple by a multiple
pub taken_exact : (cursor size unit : ℕ) → 0 < unit → size ≤ cursor → cursor % unit ≡ 0 → size % unit ≡ 0 → taken cursor size unit ≡ size
taken_exact cursor size unit positive within from by =
    omega (arith, down_same (cursor - size) unit positive (difference_multiple cursor size unit from by))

-- ---- Another cursor

-- used bytes fall as the cursor rises: their sum stays
pub used_at : (state : State) (p : ℕ) → IsValid state → start_of state.chunks ≤ p → p ≤ top_of state.chunks
    → used_bytes (with_cursor p state) + p ≡ used_bytes state + cursor_of state.chunks
used_at state p valid low high = go state.chunks valid.chunks low high
  where
    go : (chunks : List Chunk) → AreChunks state.min_align chunks → start_of chunks ≤ p → p ≤ top_of chunks
        → sum (map used_length (with_newest_cursor p chunks)) + p ≡ sum (map used_length chunks) + cursor_of chunks
    go [] fine low high = omega arith
    go (newest ∷ older) fine low high =
        let more = λ (c : Chunk). sum_by-cons (λ (n : ℕ). n) (used_length c) (map used_length older) in
        omega (arith, more newest, more (record newest { cursor = p }), fine.0.cursor_low, fine.0.cursor_high)

-- one more chunk has no used byte
pub used_with_chunk : (state : State) (e : ℕ × ℕ) → used_bytes (with_chunk e state) ≡ used_bytes state
used_with_chunk state e = grind arith

-- ---- Bounds

within : (m : ℕ) (chunks : List Chunk) → AreChunks m chunks → let all = sum (map (λ (c : Chunk). c.size) chunks) in
    (sum (map used_length chunks) ≤ all) × (all + 4096 ≤ floor_of chunks)
within m [] fine = (omega arith, omega arith)
within m (newest ∷ older) fine =
    let used = sum_by-cons (λ (n : ℕ). n) (used_length newest) (map used_length older) in
    let all = sum_by-cons (λ (n : ℕ). n) newest.size (map (λ (c : Chunk). c.size) older) in
    (omega (arith, used, all, within m older fine.2, fine.0.cursor_low), omega (arith, all, within m older fine.2, fine.1))

-- at most as many bytes are used as the chunks have
pub used_within : (state : State) → IsValid state → used_bytes state ≤ allocated_bytes state
used_within state valid = (within state.min_align state.chunks valid.chunks).0

-- and those are between 4096 and the last address
pub allocated_within : (state : State) → IsValid state → allocated_bytes state + 4096 < 2 ^ 64
allocated_within state valid = omega (arith, within state.min_align state.chunks valid.chunks, valid.top)

-- ---- An allocation

-- The used bytes rise by how far a cursor moved down.
pub record IsTaken (old new : State) (from size align : ℕ) : Type 0 where
  pub fits : size ≤ from
  pub used : used_bytes new ≡ used_bytes old + taken from size (unit_of old align)

-- the greater of an alignment and the least one is positive
pub unit_positive : (state : State) (align : ℕ) → IsValid state → 0 < unit_of state align
unit_positive state align valid = omega (arith, min_align_positive state.min_align valid.min_align)

module _ (state new : State) (size align k p : ℕ) (valid : IsValid state) (power : IsTrue (is_power align))
    (step : alloc state size align k ≡ Some (record { answer = Some p; state = new })) where
  -- an allocation that returned p moved a cursor down
  pub alloc_taken : IsTaken state new (placed_below (place state size align) state new) size align
  alloc_taken = alloc_valid_each
      (λ o. MatchOption o.answer (Unit {0}) (λ q. IsTaken state o.state (placed_below (place state size align) state o.state) size align))
      state size align k (record { answer = Some p; state = new }) valid power
      (λ q found spot. rw found (grind (arith, used_at state q valid, cursor_within state valid)))
      (λ e q none grown spot. rw none (grind (arith, used_at (with_chunk e state) q grown, used_with_chunk state e))) (λ none. tt) step

  -- a new block takes at least its size
  pub alloc_least : used_bytes state + size ≤ used_bytes new
  alloc_least = omega (arith, alloc_taken, down_le (placed_below (place state size align) state new - size) (unit_of state align))

  -- and less than a unit more
  pub alloc_most : used_bytes new ≤ used_bytes state + size + (unit_of state align - 1)
  alloc_most =
      let close = down_close (placed_below (place state size align) state new - size) (unit_of state align) in
      omega (arith, alloc_taken, close (unit_positive state align valid))

-- below a cursor at a multiple of the unit, a block of whole units takes its size
pub alloc_exact : (state new : State) (size align k p spot : ℕ) → IsValid state → IsTrue (is_power align)
    → place state size align ≡ Some spot
    → cursor_of state.chunks % unit_of state align ≡ 0 → size % unit_of state align ≡ 0
    → alloc state size align k ≡ Some (record { answer = Some p; state = new })
    → used_bytes new ≡ used_bytes state + size
alloc_exact state new size align k p spot valid power found below by step =
    let takes = rw found at (alloc_taken state new size align k p valid power step) in
    let exact = taken_exact (cursor_of state.chunks) size (unit_of state align) (unit_positive state align valid) in
    omega (arith, takes, exact takes.fits below by)

-- so does one in a new chunk, up to alignment 16
pub alloc_exact_in_new : (state new : State) (size align k p : ℕ) → IsValid state → IsTrue (is_power align) → place state size align ≡ None
    → align ≤ 16 → size % unit_of state align ≡ 0 → alloc state size align k ≡ Some (record { answer = Some p; state = new })
    → used_bytes new ≡ used_bytes state + size
alloc_exact_in_new state new size align k p valid power none small by step =
    let takes = rw none at (alloc_taken state new size align k p valid power step) in
    let unit = max_power align state.min_align power (min_align_power state.min_align valid.min_align) in
    let below = power_multiple (top_of new.chunks) (unit_of state align) 16 unit (pow_power 4 (omega arith))
    (omega (arith, min_align_le state.min_align valid.min_align))
    (top_units new (alloc_valid state size align k (record { answer = Some p; state = new }) valid power step)) in
    omega (arith, takes, taken_exact (top_of new.chunks) size (unit_of state align) (unit_positive state align valid) takes.fits below by)

pub ruleset used_laws = (layout_power, alloc_failed, taken_exact, alloc_taken, alloc_least, alloc_most, alloc_exact, alloc_exact_in_new)
