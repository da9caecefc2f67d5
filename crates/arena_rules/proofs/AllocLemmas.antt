-- The ways in which an allocation ends.
use Rattle.std.proofs.Common.{◌≡◌, ℕ, ◌+◌, ◌-◌, ◌≤◌, max, refl, subst, arith, IsTrue, Some, None, true, length, inl, inr}
use Rattle.std.specs.Prelude.{slice_get, MatchOption, ◌==◌, ◌↔◌}
use Rattle.std.specs.Option.{IsSome}
use Rattle.std.proofs.lemmas.Option.{cond_some, slice_get_past, slice_get_cases}
use Rattle.arena_rules.specs.Rounding.{down, is_power}
use Rattle.arena_rules.specs.State.{State, IsValid, start_of, cursor_of, floor_of}
use Rattle.arena_rules.specs.Search.{place, chunk_align, next_base, asked, asked_above, least_size}
use Rattle.arena_rules.specs.Moves.{Outcome, alloc, placed, fails, with_chunk, unasked}
use Rattle.arena_rules.proofs.RoundingLemmas.{down_le, up_ge, up_mod, power_positive, power_multiple, max_power, pow_power, min_align_power, min_align_le, min_align_multiple}
use Rattle.arena_rules.proofs.PlaceLemmas.{IsPlace, is_place, place_found}
use Rattle.arena_rules.proofs.CursorLemmas.{start_positive}
use Rattle.arena_rules.proofs.EntryLemmas.{IsEntry, is_entry}
use Rattle.arena_rules.proofs.SearchLemmas.{length-entries}
use Rattle.std.proofs.lemmas.Bool.Decides.{nat_tests}

-- ---- What holds in each way in which a call ends

-- a call that asks for nothing
pub unasked_each : (P : Outcome → Type 0) (k : ℕ) (r outcome : Outcome) → P r → unasked k r ≡ Some outcome → P outcome
unasked_each P k r outcome holds at = subst P (cond_some (k == 0) r outcome at).1 holds

-- an allocation: in the newest chunk, in a new one, or none
pub alloc_each : (P : Outcome → Type 0) (state : State) (size align k : ℕ) (outcome : Outcome)
    → ((p : ℕ) → place state size align ≡ Some p → P (placed state p))
    → ((e : ℕ × ℕ) (p : ℕ) → place state size align ≡ None → slice_get (asked state size align) k ≡ Some e
    → place (with_chunk e state) size align ≡ Some p → P (placed (with_chunk e state) p))
    → (place state size align ≡ None → k ≡ length (asked state size align) → P (fails state))
    → alloc state size align k ≡ Some outcome → P outcome
unfolding alloc
alloc_each P state size align k outcome here new refused step = grind (arith, nat_tests, unasked_each)

-- ---- The steps

-- there is a place
pub alloc_placed : (state : State) (size align p : ℕ) → place state size align ≡ Some p → alloc state size align 0 ≡ Some (placed state p)
unfolding alloc
alloc_placed state size align p found = rw found refl

-- nothing was granted
pub alloc_refused : (state : State) (size align k : ℕ) → place state size align ≡ None → k ≡ length (asked state size align)
    → alloc state size align k ≡ Some (fails state)
unfolding alloc
alloc_refused state size align k none all = grind (arith, nat_tests, slice_get_past)

-- ---- A chunk was granted

-- only a growing arena asks for chunks
pub growing_of : (state : State) (size align k : ℕ) (e : ℕ × ℕ) → slice_get (asked state size align) k ≡ Some e → state.is_growing ≡ true
unfolding asked
growing_of state size align k e at = grind (arith, nat_tests)

pub entry_of : (state : State) (size align k : ℕ) (e : ℕ × ℕ) → state.is_growing ≡ true → IsTrue (is_power align)
    → slice_get (asked state size align) k ≡ Some e → IsEntry (next_base (floor_of state.chunks) align) size align e
unfolding asked asked_above
entry_of state size align k e growing power at =
    is_entry (next_base (floor_of state.chunks) align) size align _ (least_size size) k e (omega arith) power (rw growing at at)

-- A chunk that was asked for makes a valid state.
pub valid_grown : (state : State) (size align : ℕ) (e : ℕ × ℕ) → IsValid state → state.is_growing ≡ true → IsTrue (is_power align)
    → IsEntry (next_base (floor_of state.chunks) align) size align e → IsValid (with_chunk e state)
valid_grown state size align e valid growing power entry =
    let unit = max_power align 16 power (pow_power 4 (omega arith)) in
    let aligned = power_multiple (next_base (floor_of state.chunks) align) 16 (chunk_align align) (pow_power 4 (omega arith)) unit in
    grind (arith, nat_tests, min_align_multiple, up_ge, power_positive, up_mod (floor_of state.chunks) (chunk_align align))

pub record IsGranted (state : State) (size align k : ℕ) (e : ℕ × ℕ) (p : ℕ) : Type 0 where
  pub step : alloc state size align k ≡ Some (placed (with_chunk e state) p)
  pub valid : IsValid (with_chunk e state)
  pub place : IsPlace e.0 (e.0 + e.1) size align state.min_align p

pub is_granted : (state : State) (size align k : ℕ) (e : ℕ × ℕ) (p : ℕ) → IsValid state → state.is_growing ≡ true → IsTrue (is_power align)
    → place state size align ≡ None → slice_get (asked state size align) k ≡ Some e
    → p ≡ down (e.0 + e.1 - size) (max align state.min_align)
    → IsGranted state size align k e p
unfolding alloc
is_granted state size align k e p valid growing power none at is =
    let m = state.min_align in
    let entry = entry_of state size align k e growing power at in
    let unit = max_power align 16 power (pow_power 4 (omega arith)) in
    let both = max_power align m power (min_align_power m valid.min_align) in
    let aligned = power_multiple e.0 (max align m) (chunk_align align) both unit (omega (arith, min_align_le m valid.min_align))
    (rw entry.based (up_mod (floor_of state.chunks) (chunk_align align))) in
    let fits = up_ge size (chunk_align align) (power_positive (chunk_align align) unit) in
    let grown = valid_grown state size align e valid growing power entry in
    grind (arith, nat_tests, place_found e.0 (e.0 + e.1) size align m, is_place e.0 (e.0 + e.1) size align m p)

-- what holds after an allocation in a valid state holds at a place in the newest chunk, at one in a new chunk, and without one
pub alloc_valid_each : (P : Outcome → Type 0) (state : State) (size align k : ℕ) (outcome : Outcome) → IsValid state
    → IsTrue (is_power align)
    → ((p : ℕ) → place state size align ≡ Some p
    → IsPlace (start_of state.chunks) (cursor_of state.chunks) size align state.min_align p → P (placed state p))
    → ((e : ℕ × ℕ) (p : ℕ) → place state size align ≡ None → IsValid (with_chunk e state)
    → IsPlace e.0 (e.0 + e.1) size align state.min_align p → P (placed (with_chunk e state) p))
    → (place state size align ≡ None → P (fails state)) → alloc state size align k ≡ Some outcome → P outcome
unfolding alloc
alloc_valid_each P state size align k outcome valid power here new failed step =
    let grown = valid_grown state size align in
    grind (arith, nat_tests, is_place, start_positive, growing_of state size align k, entry_of state size align k, grown)

-- ---- A block at the cursor, in the newest chunk

abbrev pub IsNewest : Outcome → Type 0
IsNewest outcome = MatchOption outcome.answer (Unit {0}) (λ p. (start_of outcome.state.chunks ≤ p) × (cursor_of outcome.state.chunks ≡ p))

pub alloc_newest : (state : State) (size align k : ℕ) (outcome : Outcome) → alloc state size align k ≡ Some outcome → IsNewest outcome
unfolding alloc
alloc_newest state size align k outcome step = grind (arith, nat_tests, down_le)

-- ---- For which numbers of refusals an allocation has a step

-- nothing is asked for if there is a place
pub step_in_place : (state : State) (size align p k : ℕ) → place state size align ≡ Some p → IsSome (alloc state size align k) ↔ (k ≡ 0)
unfolding alloc
step_in_place state size align p k found = grind (arith, nat_tests)

-- otherwise any of the chunks may be granted, or none
pub step_in_new : (state : State) (size align k : ℕ) → IsValid state → IsTrue (is_power align) → place state size align ≡ None
    → IsSome (alloc state size align k) ↔ (k ≤ length (asked state size align))
unfolding alloc
step_in_new state size align k valid power none = elim (slice_get_cases (asked state size align) k).1 [
  | inl inside ↦
      let growing = growing_of state size align k inside.0 inside.2 in
      let granted = is_granted state size align k inside.0 _ valid growing power none inside.2 refl in
      (λ some. omega (arith, inside.1), λ within. rw granted.step refl)
  | inr past ↦ rw (none, past.1) (grind (arith, nat_tests, past.0))
]

-- an allocation asks for at most 64 chunks
pub asked_most : (state : State) (size align : ℕ) → length (asked state size align) ≤ 64
unfolding asked asked_above
asked_most state size align = grind (arith, nat_tests, length-entries)
