-- Blocks that shrink or grow: the cases, the states, and the block afterwards.
use Rattle.std.proofs.lemmas.Bool.Decides.{nat_tests}
use Rattle.std.proofs.Common.{◌≡◌, ℕ, ◌+◌, ◌-◌, ◌%◌, ◌≤◌, max, refl, arith, IsTrue, Some}
use Rattle.std.specs.Prelude.{MatchOption}
use Rattle.arena_rules.specs.Rounding.{up, is_power}
use Rattle.arena_rules.specs.State.{State, is_min_align, IsValid, start_of, cursor_of, with_cursor, is_place_used}
use Rattle.arena_rules.specs.Moves.{Outcome, alloc, shrink, shrink_step, grow, placed, stays, fails}
use Rattle.arena_rules.specs.Blocks.{IsMovedBlock, IsBlock}
use Rattle.arena_rules.specs.declared.place.Place.{Place}
use Rattle.arena_rules.proofs.RoundingLemmas.{down_le, down_mod, up_ge, up_mono, sum_multiple, power_multiple, max_power, min_align_power, min_align_positive, layout_power}
use Rattle.arena_rules.proofs.PlaceLemmas.{IsPlace, is_place}
use Rattle.arena_rules.proofs.CursorLemmas.{cursor_within, cursor_aligned, valid_set, valid_moved}
use Rattle.arena_rules.proofs.UsedLemmas.{used_set, used_part, used_from, used_beside}
use Rattle.arena_rules.proofs.NewBlockLemmas.{is_allocated, alloc_valid}
use Rattle.arena_rules.proofs.ReturnLemmas.{block_end, used_filled}

-- ---- The cases

-- A fact holds after a block shrank, if it holds where it stays, where it moves up at the cursor, and where a new one is placed.
shrink_each : (P : Outcome → Type 0) (state : State) (block : Place) (size align k : ℕ) (outcome : Outcome)
    → (block.addr % align ≡ 0 → P (stays state block.addr)) → (alloc state size align k ≡ Some outcome → P outcome)
    → (align ≤ block.align → P (stays state block.addr))
    → (align ≤ block.align → block.addr ≡ cursor_of state.chunks
    → P (placed state (block.addr + shrink_step state block.size size align)))
    → shrink state block.addr block.size block.align size align k ≡ Some outcome → P outcome
unfolding shrink
shrink_each P state block size align k outcome here anew still moved step = grind (arith, nat_tests)

-- A fact holds after a block grew, if it holds where it moves down at the cursor, where the call fails, and where a new one is placed.
grow_each : (P : Outcome → Type 0) (state : State) (block : Place) (size align k : ℕ) (outcome : Outcome) → IsValid state
    → ((q : ℕ) → align ≤ block.align → block.addr ≡ cursor_of state.chunks → IsTrue (is_power block.align)
    → IsPlace (start_of state.chunks) (cursor_of state.chunks) (up size state.min_align - block.size) block.align state.min_align q
    → P (placed state q))
    → P (fails state) → (alloc state size align k ≡ Some outcome → P outcome)
    → grow state block.addr block.size block.align size align k ≡ Some outcome → P outcome
unfolding grow
grow_each P state block size align k outcome valid moved failed anew step = grind (arith, nat_tests, is_place)

-- ---- Valid states

-- a block at the cursor moves up by multiples
step_multiple : (state : State) (block : Place) (size align d : ℕ) → IsTrue (is_min_align state.min_align) → IsTrue (is_power align)
    → IsTrue (is_power d) → d ≤ max align state.min_align
    → shrink_step state block.size size align % d ≡ 0
step_multiple state block size align d min_align power divisor below =
    let step : ℕ = shrink_step state block.size size align in
    grind (arith, nat_tests, power_multiple step d (max align state.min_align), max_power, min_align_power, down_mod)

pub step_aligned : (state : State) (block : Place) (size align : ℕ) → IsValid state → IsTrue (is_power align)
    → block.addr ≡ cursor_of state.chunks
    → (block.addr + shrink_step state block.size size align) % state.min_align ≡ 0
step_aligned state block size align valid power at =
    sum_multiple block.addr _ state.min_align (rw at (cursor_aligned state valid))
    (step_multiple state block size align _ valid.min_align power (min_align_power _ valid.min_align) (omega arith))

pub shrink_valid : (state : State) (block : Place) (size align k : ℕ) (outcome : Outcome) → IsValid state
    → IsTrue (is_place_used state block) → IsTrue (is_power align)
    → shrink state block.addr block.size block.align size align k ≡ Some outcome → IsValid outcome.state
shrink_valid state block size align k outcome valid used power =
    shrink_each (λ (o : Outcome). IsValid o.state) state block size align k outcome (λ at. valid)
    (alloc_valid state size align k outcome valid power) (λ low. valid)
    (λ low at. valid_set state _ valid (omega (arith, cursor_within state valid))
    (omega (arith, down_le, block_end state block valid used at)) (step_aligned state block size align valid power at))

pub grow_valid : (state : State) (block : Place) (size align k : ℕ) (outcome : Outcome) → IsValid state → IsTrue (is_power align)
    → grow state block.addr block.size block.align size align k ≡ Some outcome → IsValid outcome.state
grow_valid state block size align k outcome valid power =
    grow_each (λ (o : Outcome). IsValid o.state) state block size align k outcome valid
    (λ q low at old_power spot. valid_moved state q valid spot.low (omega (arith, spot.high)) spot.min_aligned)
    valid (alloc_valid state size align k outcome valid power)

-- ---- The block afterwards

-- a block in place of the old one, or the state as it was
abbrev pub IsMoved : State → Place → ℕ → ℕ → Outcome → Type 0
IsMoved state block size align outcome =
    MatchOption outcome.answer (outcome.state ≡ state) (λ p. IsMovedBlock state block size align p outcome.state)

pub moved_anew : (state : State) (block : Place) (size align k : ℕ) (outcome : Outcome) → IsValid state → IsTrue (is_power align)
    → alloc state size align k ≡ Some outcome
    → IsMoved state block size align outcome
moved_anew state block size align k outcome valid power step =
    grind (arith, nat_tests, is_allocated state size align k outcome valid power step)

moved_not : (state : State) (block : Place) (size align : ℕ) → IsValid state → IsBlock state block → size ≤ block.size
    → block.addr % align ≡ 0
    → IsMovedBlock state block size align block.addr state
moved_not state block size align valid is smaller aligned =
    let positive = min_align_positive state.min_align valid.min_align in
    let shorter = up_mono (block.addr + size) (block.addr + block.size) state.min_align positive (omega arith) in
    grind (arith, used_part block.addr block.size block.addr size state.chunks, used_filled state block)

-- a block at the cursor that moves together with it
moved_cursor : (state : State) (block : Place) (size align q : ℕ) → IsValid state → IsBlock state block
    → block.addr ≡ cursor_of state.chunks → start_of state.chunks ≤ q
    → q + size ≤ block.addr + block.size → q % align ≡ 0 → q % state.min_align ≡ 0
    → IsMovedBlock state block size align q (with_cursor q state)
moved_cursor state block size align q valid is at low fits aligned min_aligned =
    let positive = min_align_positive state.min_align valid.min_align in
    let padded = up_ge (block.addr + block.size) state.min_align positive in
    let shorter = up_mono (q + size) (block.addr + block.size) state.min_align positive fits in
    grind (arith, used_from q size state.chunks, block_end state block valid is.used at, used_set q, used_beside state.min_align)

pub shrink_moved : (state : State) (block : Place) (size align k : ℕ) (outcome : Outcome) → IsValid state → IsBlock state block
    → size ≤ block.size → IsTrue (is_power align)
    → shrink state block.addr block.size block.align size align k ≡ Some outcome → IsMoved state block size align outcome
shrink_moved state block size align k outcome valid is smaller power =
    let q : ℕ = block.addr + shrink_step state block.size size align in
    let lower : align ≤ block.align → block.addr % align ≡ 0 = λ low.
    power_multiple block.addr align block.align power (layout_power block.size block.align is.layout) low is.aligned in
    let multiple = step_multiple state block size align align valid.min_align power power (omega arith) in
    shrink_each (IsMoved state block size align) state block size align k outcome (moved_not state block size align valid is smaller)
    (moved_anew state block size align k outcome valid power) (λ low. moved_not state block size align valid is smaller (lower low))
    (λ low at. moved_cursor state block size align q valid is at (omega (arith, cursor_within state valid))
    (omega (arith, down_le (block.size - size) (max align state.min_align))) (sum_multiple block.addr _ align (lower low) multiple)
    (step_aligned state block size align valid power at))

pub grow_moved : (state : State) (block : Place) (size align k : ℕ) (outcome : Outcome) → IsValid state → IsBlock state block
    → IsTrue (is_power align)
    → grow state block.addr block.size block.align size align k ≡ Some outcome → IsMoved state block size align outcome
grow_moved state block size align k outcome valid is power =
    let more = up_ge size state.min_align (min_align_positive state.min_align valid.min_align) in
    grow_each (IsMoved state block size align) state block size align k outcome valid
    (λ q low at old_power spot. moved_cursor state block size align q valid is at spot.low (omega (arith, spot.high))
    (power_multiple q align block.align power old_power low spot.aligned) spot.min_aligned)
    refl (moved_anew state block size align k outcome valid power)
