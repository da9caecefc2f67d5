-- Places below a valid cursor, and addresses that are aligned.
use Rattle.std.proofs.Common.{◌≡◌, ℕ, ◌+◌, ◌-◌, ◌%◌, ◌^◌, ◌<◌, ◌≤◌, max, sym, subst, arith, IsTrue, Some}
use Rattle.std.proofs.lemmas.Bool.Decides.{nat_tests}
use Rattle.arena_rules.specs.Rounding.{up, down, is_layout, is_power}
use Rattle.arena_rules.specs.State.{is_min_align}
use Rattle.arena_rules.specs.Search.{place_below}
use Rattle.arena_rules.proofs.RoundingLemmas.{layout_power, layout_small, power_multiple, max_power, sum_multiple, down_le, down_mod, up_ge, up_mod, up_least, up_fits, min_align_power, min_align_positive, min_align_le}
use Rattle.arena_rules.proofs.PlaceLemmas.{IsPlace, is_place}
use Rattle.arena_cursor.specs.Steps.{is_valid, is_in_use, is_mark}
use Rattle.arena_cursor.specs.declared.cursor.Cursor.{Cursor}

pub record IsValid (at : Cursor) : Type 0 where
  pub positive : 0 < at.start
  pub low : at.start ≤ at.cursor
  pub high : at.cursor ≤ at.end
  pub least : IsTrue (is_min_align at.min_align)
  pub whole : at.cursor % at.min_align ≡ 0
  pub whole_end : at.end % at.min_align ≡ 0

pub valid_is : (at : Cursor) → IsTrue (is_valid at) → IsValid at
valid_is at is = record {
  positive = grind (arith, nat_tests);
  low = grind (arith, nat_tests);
  high = grind (arith, nat_tests);
  least = grind (arith, nat_tests);
  whole = grind (arith, nat_tests);
  whole_end = grind (arith, nat_tests);
}

-- a valid cursor that is moved
pub moved_valid : (at : Cursor) (p : ℕ) → IsValid at → at.start ≤ p → p ≤ at.end → p % at.min_align ≡ 0
    → IsTrue (is_valid (record at { cursor = p }))
moved_valid at p is low high whole = grind (arith, nat_tests, is.positive, is.least, is.whole_end)

pub place_fits : (at : Cursor) (size align p : ℕ) → IsTrue (is_valid at) → IsTrue (is_layout size align)
    → place_below at.start at.cursor size align at.min_align ≡ Some p → IsPlace at.start at.cursor size align at.min_align p
place_fits at size align p valid layout found =
    let is = valid_is at valid in
    is_place at.start at.cursor size align at.min_align p is.positive (layout_power size align layout) is.least found

-- a number rounded down is no greater
pub down_below : (n d p : ℕ) → p ≡ down n d → p ≤ n
down_below n d p is = let low = down_le n d in omega (arith, is)

-- a multiple of an alignment is one of each lower alignment, and stays one at a multiple of it
pub aligned_below : (p size align new_size new_align : ℕ) → IsTrue (is_layout size align) → IsTrue (is_layout new_size new_align)
    → new_align ≤ align → p % align ≡ 0 → p % new_align ≡ 0
aligned_below p size align new_size new_align from to low aligned =
    power_multiple p new_align align (layout_power new_size new_align to) (layout_power size align from) low aligned

-- the greater of a block's alignment and the least one is a power, and its multiples are multiples of both
pub max_is_power : (size align m : ℕ) → IsTrue (is_layout size align) → IsTrue (is_min_align m) → IsTrue (is_power (max align m))
max_is_power size align m layout least = max_power align m (layout_power size align layout) (min_align_power m least)

down_multiple : (n d size align m : ℕ) → IsTrue (is_layout size align) → IsTrue (is_min_align m) → IsTrue (is_power d) → d ≤ max align m
    → down n (max align m) % d ≡ 0
down_multiple n d size align m layout least power low =
    power_multiple (down n (max align m)) d (max align m) power (max_is_power size align m layout least) low (down_mod n (max align m))

pub aligned_up : (p n size align new_size new_align m : ℕ) → IsTrue (is_layout size align) → IsTrue (is_layout new_size new_align)
    → IsTrue (is_min_align m) → new_align ≤ align → p % align ≡ 0 → (p + down n (max new_align m)) % new_align ≡ 0
aligned_up p n size align new_size new_align m from to least low aligned =
    sum_multiple p (down n (max new_align m)) new_align (aligned_below p size align new_size new_align from to low aligned)
    (down_multiple n new_align new_size new_align m to least (layout_power new_size new_align to) (omega arith))

-- a cursor that moved up by such a multiple, within the block at it, is valid
pub up_valid : (at : Cursor) (p from size align back : ℕ) → IsTrue (is_valid at) → IsTrue (is_in_use at p from) → IsTrue (is_layout size align)
    → p ≡ at.cursor → back ≡ down (from - size) (max align at.min_align) → back ≤ from - size
    → IsTrue (is_valid (record at { cursor = p + back }))
up_valid at p from size align back valid used layout here moves small =
    let is = valid_is at valid in
    let high : p + from ≤ at.end = grind (arith, nat_tests) in
    let power = min_align_power at.min_align is.least in
    let multiple = down_multiple (from - size) at.min_align size align at.min_align layout is.least power (omega arith) in
    moved_valid at (p + back) is (omega (arith, is.low, here)) (omega (arith, high, small))
    (sum_multiple p back at.min_align (subst (λ (n : ℕ). n % at.min_align ≡ 0) (sym here) is.whole)
    (subst (λ (n : ℕ). n % at.min_align ≡ 0) (sym moves) multiple))

-- a cursor that moved to a place is valid
pub place_valid : (at : Cursor) (size align p : ℕ) → IsTrue (is_valid at) → IsTrue (is_layout size align)
    → place_below at.start at.cursor size align at.min_align ≡ Some p → IsTrue (is_valid (record at { cursor = p }))
place_valid at size align p valid layout found =
    let fits = place_fits at size align p valid layout found in
    let is = valid_is at valid in
    moved_valid at p is fits.low (omega (arith, fits.high, is.high)) fits.min_aligned

pub place_high : (at : Cursor) (size align p : ℕ) → IsTrue (is_valid at) → IsTrue (is_layout size align)
    → place_below at.start at.cursor size align at.min_align ≡ Some p → p + size ≤ at.cursor
place_high at size align p valid layout found = (place_fits at size align p valid layout found).high

-- a place in numbers alone
pub number_fits : (start cursor size align m p : ℕ) → 0 < start → IsTrue (is_layout size align) → IsTrue (is_min_align m)
    → place_below start cursor size align m ≡ Some p → IsPlace start cursor size align m p
number_fits start cursor size align m p positive layout least found =
    is_place start cursor size align m p positive (layout_power size align layout) least found

-- a cursor that goes back to a mark is valid
pub mark_valid : (at : Cursor) (mark : ℕ) → IsTrue (is_valid at) → IsTrue (is_mark at mark) → IsTrue (is_valid (record at { cursor = mark }))
mark_valid at mark valid is =
    let low : at.cursor ≤ mark = grind (arith, nat_tests) in
    let high : mark ≤ at.end = grind (arith, nat_tests) in
    let whole : mark % at.min_align ≡ 0 = grind (arith, nat_tests) in
    let old = valid_is at valid in
    moved_valid at mark old (omega (arith, old.low, low)) high whole

-- a size rounded up to the least alignment fits
pub size_pads : (size align m : ℕ) → IsTrue (is_layout size align) → IsTrue (is_min_align m) → size + (m - 1) < 2 ^ 64
size_pads size align m layout least = omega (arith, layout_small size align layout, min_align_le m least)

pub size_grows : (size m : ℕ) → IsTrue (is_min_align m) → size ≤ up size m
size_grows size m least = up_ge size m (min_align_positive m least)

pub number_high : (start cursor size align m p : ℕ) → 0 < start → IsTrue (is_layout size align) → IsTrue (is_min_align m)
    → place_below start cursor size align m ≡ Some p → p + size ≤ cursor
number_high start cursor size align m p positive layout least found =
    (number_fits start cursor size align m p positive layout least found).high

pub number_least : (start cursor size align m p : ℕ) → 0 < start → IsTrue (is_layout size align) → IsTrue (is_min_align m)
    → place_below start cursor size align m ≡ Some p → p % m ≡ 0
number_least start cursor size align m p positive layout least found =
    (number_fits start cursor size align m p positive layout least found).min_aligned

-- where the cursor is after a block at it was given back
pub record IsPadded (at : Cursor) (p size : ℕ) : Type 0 where
  pub fits : p + size + (at.min_align - 1) < 2 ^ 64
  pub valid : IsTrue (is_valid (record at { cursor = up (p + size) at.min_align }))

pub padded_is : (at : Cursor) (p size : ℕ) → IsTrue (is_valid at) → IsTrue (is_in_use at p size) → at.end < 2 ^ 64 → IsPadded at p size
padded_is at p size valid used small =
    let is = valid_is at valid in
    let positive = min_align_positive at.min_align is.least in
    let low : at.cursor ≤ p = grind (arith, nat_tests) in
    let high : p + size ≤ at.end = grind (arith, nat_tests) in
    let least = up_least (p + size) at.min_align at.end positive is.whole_end high in
    let above = up_ge (p + size) at.min_align positive in
    record {
      fits = up_fits (p + size) at.min_align (min_align_power at.min_align is.least) (omega (arith, least, small));
      valid = moved_valid at (up (p + size) at.min_align) is (omega (arith, is.low, low, above)) least (up_mod (p + size) at.min_align);
    }

pub ruleset place_laws = (valid_is, place_fits, place_valid, place_high)

pub ruleset find_laws = (number_fits, number_high, number_least)

pub ruleset least_laws = (valid_is, min_align_power, size_pads, size_grows)
