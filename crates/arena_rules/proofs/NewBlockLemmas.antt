-- What an allocation leaves: a new block, or the state as it was.
use Rattle.std.proofs.Common.{◌≡◌, ℕ, ◌+◌, refl, arith, Some, None, IsTrue}
use Rattle.std.specs.Prelude.{MatchOption}
use Rattle.std.proofs.lemmas.Bool.Decides.{nat_tests}
use Rattle.arena_rules.specs.Rounding.{is_power}
use Rattle.arena_rules.specs.State.{State, IsValid, cursor_of}
use Rattle.arena_rules.specs.Moves.{Outcome, alloc, with_chunk}
use Rattle.arena_rules.specs.Blocks.{IsNewBlock}
use Rattle.arena_rules.proofs.RoundingLemmas.{up_least, layout_power, min_align_positive}
use Rattle.arena_rules.proofs.CursorLemmas.{top_floor, cursor_within, cursor_aligned, valid_moved}
use Rattle.arena_rules.proofs.AllocLemmas.{alloc_valid_each, step_in_place, step_in_new, asked_most}
use Rattle.arena_rules.proofs.UsedLemmas.{used_under}

-- what an allocation leaves: a new block, or the state as it was
pub record IsAllocated (old : State) (size align : ℕ) (outcome : Outcome) : Type 0 where
  pub valid : IsValid outcome.state
  pub answer : MatchOption outcome.answer (outcome.state ≡ old) (λ p. IsNewBlock old size align p outcome.state)

pub is_allocated : (state : State) (size align k : ℕ) (outcome : Outcome) → IsValid state → IsTrue (is_power align)
    → alloc state size align k ≡ Some outcome → IsAllocated state size align outcome
is_allocated state size align k outcome valid power =
    let positive = min_align_positive state.min_align valid.min_align in
    let padded = λ (n : ℕ). up_least n state.min_align (cursor_of state.chunks) positive (cursor_aligned state valid) in
    alloc_valid_each (IsAllocated state size align) state size align k outcome valid power
    (λ p found place. grind (arith, nat_tests, padded (p + size), valid_moved state p valid, cursor_within state valid, used_under))
    (λ e p none grown place. grind (arith, nat_tests, valid_moved (with_chunk e state) p grown, top_floor state.chunks, used_under))
    (λ none. record { valid = valid; answer = refl })

-- A new block was free.
pub is_new_block : (state : State) (size align k p : ℕ) (new : State) → IsValid state → IsTrue (is_power align)
    → alloc state size align k ≡ Some (record { answer = Some p; state = new }) → IsNewBlock state size align p new
is_new_block state size align k p new valid power step =
    (is_allocated state size align k (record { answer = Some p; state = new }) valid power step).answer

pub alloc_valid : (state : State) (size align k : ℕ) (outcome : Outcome) → IsValid state → IsTrue (is_power align)
    → alloc state size align k ≡ Some outcome → IsValid outcome.state
alloc_valid state size align k outcome valid power step = (is_allocated state size align k outcome valid power step).valid

-- An allocation that fails leaves the state as it was.
pub alloc_failed : (state : State) (size align k : ℕ) (new : State) → IsValid state → IsTrue (is_power align)
    → alloc state size align k ≡ Some (record { answer = None; state = new }) → new ≡ state
alloc_failed state size align k new valid power step =
    (is_allocated state size align k (record { answer = None; state = new }) valid power step).answer

pub ruleset refusal_laws = (layout_power, step_in_place, step_in_new, asked_most)
