-- The place of a block.
use Rattle.std.proofs.Common.{◌≡◌, ℕ, ◌+◌, ◌-◌, ◌%◌, ◌<◌, ◌≤◌, max, arith, IsTrue, Some, None}
use Rattle.std.proofs.lemmas.Bool.Decides.{nat_tests}
use Rattle.arena_rules.specs.Rounding.{down, is_power}
use Rattle.arena_rules.specs.State.{is_min_align}
use Rattle.arena_rules.specs.Search.{place_below}
use Rattle.arena_rules.proofs.RoundingLemmas.{down_le, down_mod, down_greatest, power_positive, power_multiple, max_power, min_align_power}

pub record IsPlace (start cursor size align min_align p : ℕ) : Type 0 where
  pub low : start ≤ p
  pub high : p + size ≤ cursor
  pub aligned : p % align ≡ 0
  pub min_aligned : p % min_align ≡ 0
  pub is : p ≡ down (cursor - size) (max align min_align)

pub is_place : (start cursor size align m p : ℕ) → 0 < start → IsTrue (is_power align) → IsTrue (is_min_align m)
    → place_below start cursor size align m ≡ Some p → IsPlace start cursor size align m p
is_place start cursor size align m p positive power min_align found =
    let second = min_align_power m min_align in
    let whole = max_power align m power second in
    let align_divides = power_multiple p align (max align m) power whole (omega arith) in
    let least_divides = power_multiple p m (max align m) second whole (omega arith) in
    grind (arith, nat_tests, down_le, down_mod)

-- There is a place if the size fits above an aligned base.
pub place_found : (base cursor size align m : ℕ) → IsTrue (is_power align) → IsTrue (is_min_align m)
    → base % max align m ≡ 0 → base + size ≤ cursor → place_below base cursor size align m ≡ Some (down (cursor - size) (max align m))
place_found base cursor size align m power min_align aligned fits =
    let whole = max_power align m power (min_align_power m min_align) in
    let low = down_greatest (cursor - size) (max align m) base (power_positive (max align m) whole) aligned (omega arith) in
    grind (arith, nat_tests)

-- ---- The bump step, test by test

-- a size greater than the cursor has no place
pub past_none : (start cursor size align m : ℕ) → 0 < start → cursor < size → None ≡ place_below start cursor size align m
past_none start cursor size align m positive past =
    grind (arith, nat_tests, down_le (cursor - size) (max align m))
