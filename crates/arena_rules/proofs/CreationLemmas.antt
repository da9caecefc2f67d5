-- What a new arena is.
use Rattle.std.proofs.Common.{◌≡◌, ℕ, ◌+◌, ◌-◌, ◌%◌, ◌^◌, ◌<◌, ◌≤◌, refl, subst, arith, IsTrue, Some}
use Rattle.arena_rules.specs.State.{used_bytes, State, is_min_align, IsValid}
use Rattle.arena_rules.specs.Search.{next_base}
use Rattle.arena_rules.specs.Moves.{with_chunk}
use Rattle.arena_rules.specs.Creation.{empty_state, fixed_state, capacity_chunk, create}
use Rattle.arena_rules.proofs.RoundingLemmas.{min_align_power}
use Rattle.arena_rules.proofs.EntryLemmas.{possible_entry}
use Rattle.arena_rules.proofs.AllocLemmas.{valid_grown}
use Rattle.std.proofs.lemmas.Bool.Decides.{nat_tests}

-- an arena without a chunk
pub growing_valid : (m : ℕ) → IsTrue (is_min_align m) → IsValid (empty_state m)
growing_valid m min_align = record { min_align = min_align; chunks = tt; top = omega arith; kind = tt; generation = omega arith }

-- a fixed arena with its one chunk
pub fixed_valid : (m size : ℕ) → IsTrue (is_min_align m) → size % 16 ≡ 0 → size + 48 ≤ 2 ^ 63 - 16 → IsValid (fixed_state m size)
fixed_valid m size min_align units fits = grind (arith, nat_tests)

-- ---- With a capacity

-- an arena with that chunk
pub capacity_valid : (m capacity : ℕ) (e : ℕ × ℕ) → IsTrue (is_min_align m) → 0 < capacity → capacity_chunk capacity m ≡ Some e
    → IsValid (with_chunk e (empty_state m))
unfolding capacity_chunk
capacity_valid m capacity e min_align some is =
    let power = min_align_power m min_align in
    valid_grown (empty_state m) capacity m e (growing_valid m min_align) refl power
    (possible_entry (next_base 4096 m) capacity m capacity e some power (grind (arith, nat_tests)))

-- an arena that is made is valid
pub created_valid : (m capacity k : ℕ) (state : State) → IsTrue (is_min_align m) → create m capacity k ≡ Some (Some state) → IsValid state
unfolding create
created_valid m capacity k state min_align made =
    let made_by = λ (e : ℕ × ℕ) (some : 0 < capacity) (is : capacity_chunk capacity m ≡ Some e) (at : with_chunk e (empty_state m) ≡ state).
    subst IsValid at (capacity_valid m capacity e min_align some is) in
    let empty = λ (same : empty_state m ≡ state). subst IsValid same (growing_valid m min_align) in
    grind (arith, nat_tests)

-- an arena that is made has no byte in use
pub created_unused : (m capacity k : ℕ) (state : State) → create m capacity k ≡ Some (Some state) → used_bytes state ≡ 0
unfolding create
created_unused m capacity k state made = grind (arith, nat_tests)
