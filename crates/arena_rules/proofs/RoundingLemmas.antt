-- Rounding to multiples, powers of two, and layouts.
use Rattle.std.proofs.Common.{◌≡◌, ℕ, zero, suc, ◌+◌, ◌-◌, ◌*◌, ◌/◌, ◌%◌, ◌^◌, ◌<◌, ◌≤◌, max, false, refl, ap, ◌∙◌, arith, bit_and, pow-add, IsTrue, eqb-true, eq-eqb, Option, Some, None, pow_mono, inl, inr, ◌==◌}
use Rattle.std.specs.Prelude.{◌&&◌, ◌↔◌}
use Rattle.std.specs.Int.{is_power_of_two, IsPowerOfTwo}
use Rattle.std.specs.Int.RustNames.{count_ones}
use Rattle.std.specs.Option.{SomeIff}
use Rattle.std.proofs.lemmas.Bool.{or_cases, and_parts, agree_below_at}
use Rattle.std.proofs.lemmas.Bool.Decides.{nat_tests, same_from_decides}
use Rattle.std.proofs.lemmas.Grind.{common_steps}
use Rattle.std.proofs.lemmas.Nat.{ones_cat, zero_from_ones, ones_le_self, leading_top, pow_pos, pow_below, and_mask}
use Rattle.std.proofs.lemmas.Nat.Bits.{and_high_mask}
use Rattle.std.proofs.lemmas.Nat.Gcd.{le_of_dvd}
use Rattle.std.proofs.Math.Nat.{div-mul-le_self, mul-mod_left, pow-suc, dvd_of_mod-eq-zero, mod-eq-zero_of_dvd, dvd-add, dvd-sub, dvd_trans}
use Rattle.arena_rules.specs.Rounding.{down, up, is_layout, is_power, is_power_among}
use Rattle.arena_rules.specs.State.{is_min_align}

-- ---- Multiples

pub sum_multiple : (a b d : ℕ) → a % d ≡ 0 → b % d ≡ 0 → (a + b) % d ≡ 0
sum_multiple a b d first second = mod-eq-zero_of_dvd d (dvd-add d (dvd_of_mod-eq-zero d first) (dvd_of_mod-eq-zero d second))

pub difference_multiple : (a b d : ℕ) → a % d ≡ 0 → b % d ≡ 0 → (a - b) % d ≡ 0
difference_multiple a b d first second = mod-eq-zero_of_dvd d (dvd-sub d (dvd_of_mod-eq-zero d first) (dvd_of_mod-eq-zero d second))

-- two multiples differ by at least the divisor
pub multiples_apart : (m n d : ℕ) → m % d ≡ 0 → n % d ≡ 0 → m < n → m + d ≤ n
multiples_apart m n d low high below =
    omega (arith, le_of_dvd {m = d} {n = n - m} (omega arith) (dvd-sub d (dvd_of_mod-eq-zero d high) (dvd_of_mod-eq-zero d low)))

pub down_le : (n d : ℕ) → down n d ≤ n
unfolding down
down_le n d = grind (arith, common_steps)

pub down_close : (n d : ℕ) → 0 < d → n < down n d + d
unfolding down
down_close n d positive = omega arith

pub down_mod : (n d : ℕ) → down n d % d ≡ 0
unfolding down
down_mod n d = mul-mod_left (n / d) d

pub down_greatest : (n d m : ℕ) → 0 < d → m % d ≡ 0 → m ≤ n → m ≤ down n d
down_greatest n d m positive multiple within =
    grind (arith, down_close n d positive, multiples_apart (down n d) m d (down_mod n d) multiple)

-- a multiple is rounded to itself
pub down_same : (n d : ℕ) → 0 < d → n % d ≡ 0 → down n d ≡ n
down_same n d positive multiple = omega (arith, down_le n d, down_greatest n d n positive multiple (omega arith))

pub up_ge : (n d : ℕ) → 0 < d → n ≤ up n d
unfolding up
up_ge n d positive = omega arith

pub up_close : (n d : ℕ) → 0 < d → up n d < n + d
unfolding up
up_close n d positive = omega (arith, div-mul-le_self (n + (d - 1)) d)

pub up_mod : (n d : ℕ) → up n d % d ≡ 0
unfolding up
up_mod n d = mul-mod_left ((n + (d - 1)) / d) d

pub up_least : (n d x : ℕ) → 0 < d → x % d ≡ 0 → n ≤ x → up n d ≤ x
up_least n d x positive multiple within = grind (arith, up_close n d positive, multiples_apart x (up n d) d multiple (up_mod n d))

pub up_mono : (n k d : ℕ) → 0 < d → n ≤ k → up n d ≤ up k d
up_mono n k d positive below = up_least n d (up k d) positive (up_mod k d) (omega (arith, up_ge k d positive))

pub up_same : (n d : ℕ) → 0 < d → n % d ≡ 0 → up n d ≡ n
up_same n d positive multiple = omega (arith, up_ge n d positive, up_least n d n positive multiple (omega arith))

-- ---- Powers of two

-- one of the first powers of two has its exponent
power_among : (turns n : ℕ) → IsTrue (is_power_among turns n) → (k : ℕ) × (k < turns) × (n ≡ 2 ^ k)
unfolding is_power_among
power_among zero n is = cc
power_among (suc turns) n is = elim (or_cases (n == 2 ^ turns) (is_power_among turns n) is) [
  | inl here ↦ (turns, omega arith, eqb-true _ _ here)
  | inr below ↦ let found = power_among turns n below in (found.0, omega (arith, found.1), found.2)
]

among_power : (turns k : ℕ) → k < turns → IsTrue (is_power_among turns (2 ^ k))
unfolding is_power_among
among_power zero k below = absurd (omega arith)
among_power (suc turns) k below = grind (arith, nat_tests, among_power turns k)

pub pow_power : (k : ℕ) → k < 64 → IsTrue (is_power (2 ^ k))
pow_power k below = among_power 64 k below

-- 64 powers are enough for 64-bit numbers
pub power_from : (n : ℕ) → n < 2 ^ 64 → IsPowerOfTwo n → IsTrue (is_power n)
power_from n small power = rw (power.1) (pow_power power.0 (grind (arith, power.1, pow_mono {i = 64} {j = power.0})))

pub power_small : (n : ℕ) → IsTrue (is_power n) → n ≤ 2 ^ 63
power_small n power = let k = power_among 64 n power in omega (arith, k.2, pow_mono {i = k.0} {j = 63} (omega (arith, k.1)))

pub power_positive : (n : ℕ) → IsTrue (is_power n) → 0 < n
power_positive n power = let k = power_among 64 n power in omega (arith, k.2, pow_pos k.0)

-- a number with exactly one bit set is a power of two
one_bit : (n : ℕ) → n < 2 ^ 64 → count_ones n ≡ 1 → IsPowerOfTwo n
unfolding count_ones
one_bit n small one =
    let top = leading_top 64 n (omega (arith, ones_le_self n)) small in
    let split : 1 * 2 ^ top.0 + (n - 2 ^ top.0) ≡ n = omega (arith, top.2) in
    let parts = ones_cat top.0 1 (n - 2 ^ top.0) (omega (arith, top.3, pow-suc 2 top.0)) in
    (top.0, omega (arith, top.2, zero_from_ones (n - 2 ^ top.0) (omega (arith, ap count_ones split, parts))))

-- for 64-bit numbers the test finds exactly the powers of two
pub power_tested : (n : ℕ) → n < 2 ^ 64 → IsTrue (is_power n) ↔ IsPowerOfTwo n
power_tested n small = (λ power. let k = power_among 64 n power in (k.0, k.2), power_from n small)

-- std's test, by the number of bits
pub power_by_bits : (n : ℕ) → n < 2 ^ 64 → is_power_of_two n ≡ is_power n
unfolding count_ones
power_by_bits n small = same_from_decides (is_power_of_two n) (is_power n) (
  λ bits. one_bit n small (eqb-true _ _ bits),
  λ power. eq-eqb _ _ (ap count_ones (omega (arith, power.1)) ∙ ones_cat power.0 1 0 (pow_pos power.0)),
)
    (power_tested n small)

-- of two powers of two the smaller one divides the other
pub power_mod : (a b : ℕ) → IsTrue (is_power a) → IsTrue (is_power b) → a ≤ b → b % a ≡ 0
power_mod a b low high below =
    let j = power_among 64 a low in
    let k = power_among 64 b high in
    let order : k.0 ≡ k.0 - j.0 + j.0 = grind (arith, j.2, k.2, pow_below k.0 j.0) in
    rw (k.2, order, pow-add, ← j.2) (mul-mod_left (2 ^ (k.0 - j.0)) a)

pub power_multiple : (x a b : ℕ) → IsTrue (is_power a) → IsTrue (is_power b) → a ≤ b → x % b ≡ 0 → x % a ≡ 0
power_multiple x a b low high below multiple =
    mod-eq-zero_of_dvd a (dvd_trans a (dvd_of_mod-eq-zero a (power_mod a b low high below)) (dvd_of_mod-eq-zero b multiple))

pub max_power : (a b : ℕ) → IsTrue (is_power a) → IsTrue (is_power b) → IsTrue (is_power (max a b))
max_power a b first second = grind (arith, first, second)

pub min_align_le : (m : ℕ) → IsTrue (is_min_align m) → m ≤ 16
min_align_le m is = grind (arith, nat_tests)

pub min_align_power : (m : ℕ) → IsTrue (is_min_align m) → IsTrue (is_power m)
unfolding is_power_among
min_align_power m is =
    (and_parts (is_min_align m) (is_power m)
    (agree_below_at (λ n. is_min_align n && is_power n) is_min_align 17 m refl (omega (arith, min_align_le m is)) ∙ is)).1

pub min_align_positive : (m : ℕ) → IsTrue (is_min_align m) → 0 < m
min_align_positive m is = grind (arith, nat_tests)

-- each least alignment divides 16
pub min_align_multiple : (x m : ℕ) → IsTrue (is_min_align m) → x % 16 ≡ 0 → x % m ≡ 0
min_align_multiple x m is multiple = power_multiple x m 16 (min_align_power m is) (pow_power 4 (omega arith)) (min_align_le m is) multiple

-- the masks that round down and give the remainder
pub mask_down : (n d : ℕ) → IsTrue (is_power d) → n < 2 ^ 64 → bit_and n (2 ^ 64 - 1 - (d - 1)) ≡ down n d
unfolding down
mask_down n d power small =
    let k = power_among 64 d power in
    rw (k.2) (ap (bit_and n) (omega (arith, pow_pos k.0)) ∙ and_high_mask 64 k.0 (omega (arith, k.1)) n small)

pub mask_mod : (n d : ℕ) → IsTrue (is_power d) → bit_and n (d - 1) ≡ n % d
mask_mod n d power =
    let k = power_among 64 d power in rw (k.2) (and_mask n k.0)

-- a multiple below the last address leaves room for the sum that it is rounded from
pub up_fits : (n d : ℕ) → IsTrue (is_power d) → up n d < 2 ^ 64 → n + (d - 1) < 2 ^ 64
up_fits n d power fits =
    let whole = power_multiple (2 ^ 64) d (2 ^ 63) power (pow_power 63 (omega arith)) (power_small d power) (omega arith) in
    omega (arith, multiples_apart (up n d) (2 ^ 64) d (up_mod n d) whole fits, up_ge n d (power_positive d power))

pub some_up : (r : Option ℕ) (n d : ℕ) → IsTrue (is_power d) → SomeIff r (n + (d - 1) < 2 ^ 64) (up n d)
    → SomeIff r (up n d < 2 ^ 64) (up n d)
some_up None n d power over = λ fits. over (up_fits n d power fits)
some_up (Some x) n d power is = (omega (arith, is.0, up_close n d (power_positive d power)), is.1)

-- ---- Layouts

pub layout_power : (size align : ℕ) → IsTrue (is_layout size align) → IsTrue (is_power align)
layout_power size align valid = grind (arith, nat_tests)

pub layout_fits : (size align : ℕ) → IsTrue (is_layout size align) → up size align ≤ 2 ^ 63 - 1
layout_fits size align valid = grind (arith, nat_tests)

pub layout_small : (size align : ℕ) → IsTrue (is_layout size align) → size ≤ 2 ^ 63 - 1
layout_small size align valid =
    omega (arith, layout_fits size align valid, up_ge size align (power_positive align (layout_power size align valid)))

-- the sum that a size is rounded from fits
pub layout_pads : (size align : ℕ) → IsTrue (is_layout size align) → size + (align - 1) < 2 ^ 64
layout_pads size align valid = omega (arith, layout_small size align valid, power_small align (layout_power size align valid))

pub not_layout : (size align : ℕ) → (size + (align - 1) < 2 ^ 64 → ⊥) → false ≡ is_layout size align
not_layout size align over = grind (arith, nat_tests, layout_pads size align)

-- a size that doesn't fit in 64 bits has no layout
pub not_layout_above : (size align : ℕ) → (size < 2 ^ 64 → ⊥) → false ≡ is_layout size align
not_layout_above size align over = grind (arith, nat_tests, layout_small size align)

pub ruleset rounding_laws = (down_mod, down_le, down_close, down_greatest, up_mod, up_ge, up_least)
