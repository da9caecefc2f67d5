-- What is true of a chunk that is asked for.
use Rattle.arena_rules.proofs.ListLemmas.{all_get, all_filtered}
use Rattle.std.proofs.Common.{◌≡◌, ℕ, zero, suc, ◌+◌, ◌-◌, ◌/◌, ◌%◌, ◌^◌, ◌<◌, ◌≤◌, max, arith, IsTrue, Some, inl, inr, refl}
use Rattle.std.specs.Prelude.{slice_get}
use Rattle.std.specs.List.{AllByRecursion}
use Rattle.std.proofs.lemmas.Bool.{cases_lt}
use Rattle.std.proofs.lemmas.Bool.Decides.{nat_tests}
use Rattle.arena_rules.specs.Rounding.{up, is_power}
use Rattle.arena_rules.specs.Search.{halves, possible, entries, size_for, rounded_size, power_at_least, chunk_align}
use Rattle.arena_rules.proofs.RoundingLemmas.{up_ge, up_mod, power_positive, power_multiple, max_power, pow_power, power_from, power_mod, layout_fits}
use Rattle.arena_rules.proofs.SizeLemmas.{power_at_least_ge, power_at_least_le, power_at_least_power}
use Rattle.arena_rules.proofs.SearchLemmas.{size_is}

-- each tried size is between the least and the first
pub all_halves : (t n least most : ℕ) → n ≤ most → AllByRecursion (λ m. (least ≤ m) × (m ≤ most)) (halves t n least)
unfolding halves
all_halves zero n least most within = tt
all_halves (suc t) n least most within = grind (arith, nat_tests, all_halves t (n / 2) least most)

-- a possible chunk has the data size of its tried size
pub possible_is : (base size align tried : ℕ) (e : ℕ × ℕ) → possible base size align tried ≡ Some e
    → (size_for tried size align ≡ Some e.1) × (e.0 ≡ base) × (e.0 + e.1 + 48 ≤ 2 ^ 64 - 1)
unfolding possible
possible_is base size align tried e is = grind (arith, nat_tests)

pub record IsEntry (base size align : ℕ) (e : ℕ × ℕ) : Type 0 where
  pub based : e.0 ≡ base
  pub large : 64 ≤ e.1
  pub holds : up size (chunk_align align) ≤ e.1
  pub units : e.1 % 16 ≡ 0
  pub fits : e.1 + 48 ≤ 2 ^ 63 - 16
  pub top : e.0 + e.1 + 48 ≤ 2 ^ 64 - 1

pub rounded_large : (w n : ℕ) → 4096 ≤ w → rounded_size w ≡ Some n → n ≡ up (w + 64) 4096 - 64
rounded_large w n large is = grind (arith, nat_tests)

-- with 64 more a power of two above 64, or whole pages
rounded_whole : (w n : ℕ) → 0 < w → rounded_size w ≡ Some n → (w ≤ n) × (64 ≤ n) × (n % 16 ≡ 0)
rounded_whole w n some is = elim (cases_lt w 4096) [
  | inl small ↦
      let high = power_at_least_ge (w + 64) (omega arith) in
      let low = power_at_least_le (w + 64) 8192 (omega arith) (13, refl) (omega arith) in
      let power = power_from (power_at_least (w + 64)) (omega arith) (power_at_least_power (w + 64) (omega arith)) in
      let whole = power_mod 64 (power_at_least (w + 64)) (pow_power 6 (omega arith)) power (omega arith) in
      grind (arith, nat_tests)
  | inr large ↦ grind (arith, nat_tests, up_ge (w + 64) 4096, up_mod (w + 64) 4096)
]

-- a possible chunk has room for the block, and at least its tried size
pub possible_entry : (base size align tried : ℕ) (e : ℕ × ℕ) → 0 < tried → IsTrue (is_power align) → possible base size align tried ≡ Some e
    → IsEntry base size align e
possible_entry base size align tried e some power is =
    let made = possible_is base size align tried e is in
    let sized = size_is tried size align e.1 made.0 in
    let unit = max_power align 16 power (pow_power 4 (omega arith)) in
    let positive = power_positive (chunk_align align) unit in
    let multiple = power_multiple (up (e.1 + 48) (chunk_align align)) 16 (chunk_align align) (pow_power 4 (omega arith)) unit (omega arith)
    (up_mod (e.1 + 48) (chunk_align align)) in
    grind (arith, rounded_whole (max tried (up size (chunk_align align))) e.1, up_ge, layout_fits (e.1 + 48))

pub is_entry : (base size align first least k : ℕ) (e : ℕ × ℕ) → 4096 ≤ least → IsTrue (is_power align)
    → slice_get (entries base size align first least) k ≡ Some e
    → IsEntry base size align e
unfolding entries
is_entry base size align first least k e large power found =
    all_get (IsEntry base size align) _ k e (all_filtered (possible base size align) (λ m. (least ≤ m) × (m ≤ first)) _
    (λ tried e bounds is. possible_entry base size align tried e (omega (arith, bounds)) power is) _
    (all_halves 64 first least first (omega arith))) found
