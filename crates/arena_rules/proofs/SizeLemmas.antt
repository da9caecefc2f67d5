-- The size of a chunk.
use Rattle.std.proofs.Common.{◌≡◌, ℕ, zero, suc, ◌+◌, ◌-◌, ◌*◌, ◌^◌, ◌<◌, ◌≤◌, max, refl, arith, IsTrue, Some, None, pow_mono, false, nat_le, subst, leb-true, ◌/◌}
use Rattle.std.specs.Int.{IsPowerOfTwo, IsNextPowerOfTwo}
use Rattle.std.proofs.lemmas.Bool.{cond_both, leb-false}
use Rattle.std.proofs.lemmas.Bool.Decides.{nat_tests}
use Rattle.std.proofs.lemmas.Nat.{pow_pos}
use Rattle.std.proofs.Math.Nat.{pow-suc}
use Rattle.arena_rules.specs.Rounding.{up, is_layout}
use Rattle.arena_rules.specs.Search.{doubled, power_at_least, rounded_size, size_for}

-- a power of two at or above n is at or above the next one
next_le : (n p q : ℕ) → IsNextPowerOfTwo n p → IsPowerOfTwo q → n ≤ q → p ≤ q
next_le n p q next power enough =
    let least = pow_mono {i = next.0.0} {j = power.0} in
    grind (arith, next, power.1, least, pow_mono {i = suc power.0} {j = next.0.0}, pow_pos power.0, pow-suc 2 power.0)

doubled_next : (turns j n : ℕ) → 2 ^ j / 2 < max 1 n → n ≤ 2 ^ (turns + j) → IsNextPowerOfTwo n (doubled turns (2 ^ j) n)
unfolding doubled
doubled_next zero j n half fits = ((j, refl), subst (λ (e : ℕ). n ≤ 2 ^ e) (omega arith) fits, half)
doubled_next (suc turns) j n half fits =
    let double : 2 * 2 ^ j ≡ 2 ^ suc j = omega (arith, pow-suc 2 j) in
    cond_both (nat_le n (2 ^ j)) _ _ (IsNextPowerOfTwo n) (λ enough. ((j, refl), leb-true _ _ enough, half)) (λ short.
    let below : 2 ^ suc j / 2 < max 1 n = omega (arith, double, leb-false n (2 ^ j) short) in
    rw double (doubled_next turns (suc j) n below (subst (λ (e : ℕ). n ≤ 2 ^ e) (omega arith) fits)))

-- a limit of 64 is large enough
least_power : (n : ℕ) → n ≤ 2 ^ 64 → IsNextPowerOfTwo n (power_at_least n)
unfolding power_at_least
least_power n fits = doubled_next 64 0 n (omega arith) fits

pub power_at_least_power : (n : ℕ) → n ≤ 2 ^ 64 → IsPowerOfTwo (power_at_least n)
power_at_least_power n fits = (least_power n fits).0

pub power_at_least_ge : (n : ℕ) → n ≤ 2 ^ 64 → n ≤ power_at_least n
power_at_least_ge n fits = (least_power n fits).1

pub power_at_least_le : (n p : ℕ) → n ≤ 2 ^ 64 → IsPowerOfTwo p → n ≤ p → power_at_least n ≤ p
power_at_least_le n p fits = next_le n (power_at_least n) p (least_power n fits)

pub next_power : (n p : ℕ) → n ≤ 2 ^ 64 → IsNextPowerOfTwo n p → p ≡ power_at_least n
next_power n p fits next =
    let least = least_power n fits in
    omega (arith, power_at_least_le n p fits next.0 next.1, next_le n p (power_at_least n) next least.0 least.1)

pub rounded_small : (w : ℕ) → w < 4096 → rounded_size w ≡ Some (power_at_least (w + 64) - 64)
rounded_small w small = grind (arith, nat_tests)

pub size_none : (tried size align w : ℕ) → w ≡ max tried (up size (max align 16)) → rounded_size w ≡ None → None ≡ size_for tried size align
unfolding size_for
size_none tried size align w is none = rw (← is, none) refl

pub size_some : (tried size align w bytes : ℕ) → w ≡ max tried (up size (max align 16)) → rounded_size w ≡ Some bytes
    → IsTrue (is_layout (bytes + 48) (max align 16)) → Some bytes ≡ size_for tried size align
unfolding size_for
size_some tried size align w bytes is some valid = rw (← is, some, valid) refl

pub size_invalid : (tried size align w bytes : ℕ) → w ≡ max tried (up size (max align 16)) → rounded_size w ≡ Some bytes
    → is_layout (bytes + 48) (max align 16) ≡ false → None ≡ size_for tried size align
unfolding size_for
size_invalid tried size align w bytes is some invalid = rw (← is, some, invalid) refl

pub ruleset power_laws = (power_at_least_power, power_at_least_ge, power_at_least_le)
