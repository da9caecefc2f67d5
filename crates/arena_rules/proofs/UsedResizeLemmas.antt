-- How many bytes are used after a block was resized or given back.
use Rattle.std.proofs.Common.{◌≡◌, ℕ, ◌+◌, ◌-◌, ◌%◌, ◌<◌, ◌≤◌, refl, ap, ◌∙◌, arith, Some, IsTrue}
use Rattle.arena_rules.specs.Rounding.{up, is_power, is_layout}
use Rattle.arena_rules.specs.State.{State, IsValid, start_of, cursor_of, with_cursor, used_bytes, is_place_used}
use Rattle.arena_rules.specs.Moves.{Outcome, Resizing, growth, growing, grow, shrinking, shrink, resize, dealloc}
use Rattle.arena_rules.specs.Moves.Resizing.{Stays, Moves, Refused}
use Rattle.arena_rules.specs.Blocks.{padded_size}
use Rattle.arena_rules.specs.Used.{taken, unit_of}
use Rattle.arena_rules.specs.declared.place.Place.{Place}
use Rattle.arena_rules.proofs.RoundingLemmas.{down_le, down_close, down_same, up_ge, up_close, up_same, sum_multiple, power_positive, min_align_positive, layout_power}
use Rattle.arena_rules.proofs.PlaceLemmas.{IsPlace, is_place}
use Rattle.arena_rules.proofs.CursorLemmas.{start_positive, cursor_within, cursor_aligned}
use Rattle.arena_rules.proofs.ReturnLemmas.{block_end, is_return, dealloc_elsewhere}
use Rattle.arena_rules.proofs.UsedBytesLemmas.{used_at, unit_positive, taken_exact}
use Rattle.std.proofs.lemmas.Bool.Decides.{nat_tests}

-- ---- The state after a resize, by what becomes of the block

-- a block that moves leaves the cursor at its new address
pub resize_moves : (state : State) (way : Resizing) (p size align k q : ℕ) (outcome : Outcome) → way ≡ Moves q
    → resize way state p size align k ≡ Some outcome → outcome.state ≡ with_cursor q state
resize_moves state way p size align k q outcome is step = grind (arith, nat_tests)

-- a block that stays leaves the state as it was
pub resize_stays : (state : State) (way : Resizing) (p size align k : ℕ) (outcome : Outcome) → way ≡ Stays
    → resize way state p size align k ≡ Some outcome → outcome.state ≡ state
resize_stays state way p size align k outcome is step = grind (arith, nat_tests)

-- so does a call that is refused
pub resize_refused : (state : State) (way : Resizing) (p size align k : ℕ) (outcome : Outcome) → way ≡ Refused
    → resize way state p size align k ≡ Some outcome → outcome.state ≡ state
resize_refused state way p size align k outcome is step = grind (arith, nat_tests)

-- ---- A block that grows in place

-- It was at the cursor, and what it needs has a place below it.
pub record IsGrowth (state : State) (p size align new_size q : ℕ) : Type 0 where
  pub at : p ≡ cursor_of state.chunks
  pub place : IsPlace (start_of state.chunks) (cursor_of state.chunks) (growth state size new_size) align state.min_align q
  pub power : IsTrue (is_power align)

-- what is true of a block that grows down to q
pub is_growth : (state : State) (p size align new_size new_align q : ℕ) → IsValid state
    → growing state p size align new_size new_align ≡ Moves q
    → IsGrowth state p size align new_size q
is_growth state p size align new_size new_align q valid is =
    let fine : IsTrue (is_layout (growth state size new_size) align) = grind (arith, nat_tests) in
    let power = layout_power (growth state size new_size) align fine in
    let spot = is_place (start_of state.chunks) (cursor_of state.chunks) (growth state size new_size) align state.min_align q
    (start_positive state valid) power valid.min_align in
    grind (arith, nat_tests)

-- the used bytes rise by how far it moves down
pub grow_used : (state : State) (p size align new_size new_align k q : ℕ) (outcome : Outcome) → IsValid state
    → growing state p size align new_size new_align ≡ Moves q
    → grow state p size align new_size new_align k ≡ Some outcome → used_bytes outcome.state ≡ used_bytes state + (p - q)
unfolding grow
grow_used state p size align new_size new_align k q outcome valid is step =
    let growth = is_growth state p size align new_size new_align q valid is in
    rw (resize_moves state (growing state p size align new_size new_align) p new_size new_align k q outcome is step)
    (grind (arith, used_at state q valid growth.place.low, cursor_within state valid, growth))

module _ (state : State) (p size align new_size new_align q : ℕ) (valid : IsValid state)
    (is : growing state p size align new_size new_align ≡ Moves q) where
  grows : IsGrowth state p size align new_size q
  grows = is_growth state p size align new_size new_align q valid is

  positive : 0 < state.min_align
  positive = min_align_positive state.min_align valid.min_align

  -- the distance: what it needs, plus what aligns its place
  pub growth_taken : p - q ≡ taken p (growth state size new_size) (unit_of state align)
  growth_taken = rw grows.at (omega (arith, grows.place.is))

  -- it moves down
  pub growth_lower : q ≤ p
  growth_lower = omega (arith, grows)

  -- by at least what it grows by
  pub growth_least : new_size - size ≤ p - q
  growth_least = omega (arith, grows, up_ge new_size state.min_align positive)

  -- by less than the least alignment and less than a unit more
  pub growth_most : p - q ≤ new_size - size + (state.min_align - 1) + (unit_of state align - 1)
  growth_most =
      let close = down_close (p - growth state size new_size) (unit_of state align) (unit_positive state align valid) in
      omega (arith, growth_taken, grows, close, up_close new_size state.min_align positive)

  -- a block that grows by whole units to a multiple of the least alignment takes exactly that
  pub growth_exact : p % align ≡ 0 → new_size % state.min_align ≡ 0 → (new_size - size) % unit_of state align ≡ 0
      → p - q ≡ new_size - size
  growth_exact aligned whole by =
      let needs = up_same new_size state.min_align positive whole in
      let low : p % state.min_align ≡ 0 = rw grows.at (cursor_aligned state valid) in
      growth_taken ∙ rw needs (taken_exact p (new_size - size) (unit_of state align) (unit_positive state align valid)
      (omega (arith, grows, needs)) (grind (arith, aligned, low)) by)

  -- so does a block that grows by a multiple of its alignment, where the least one is 1
  pub growth_exact_at_one : state.min_align ≡ 1 → p % align ≡ 0 → (new_size - size) % align ≡ 0 → p - q ≡ new_size - size
  growth_exact_at_one one aligned by =
      let unit : unit_of state align ≡ align = omega (arith, power_positive align grows.power) in
      growth_exact aligned (rw one (omega arith)) (rw unit by)

-- a block that grows never stays as it is
pub growing_stays : (state : State) (p size align new_size new_align : ℕ) → growing state p size align new_size new_align ≡ Stays → ⊥
growing_stays state p size align new_size new_align is = grind (arith, nat_tests)

-- ---- A block that shrinks in place

-- the used bytes fall by how far it moves up
pub shrink_used : (state : State) (block : Place) (size align k q : ℕ) (outcome : Outcome) → IsValid state
    → IsTrue (is_place_used state block)
    → shrinking state block.addr block.size block.align size align ≡ Moves q
    → shrink state block.addr block.size block.align size align k ≡ Some outcome
    → used_bytes outcome.state + (q - block.addr) ≡ used_bytes state
unfolding shrink
shrink_used state block size align k q outcome valid used is step =
    let most = down_le (block.size - size) (unit_of state align) in
    rw (resize_moves state (shrinking state block.addr block.size block.align size align) block.addr size align k q outcome is step)
    (grind (arith, nat_tests, used_at state q valid, cursor_within state valid, block_end state block valid used))

-- ---- A block that is given back, and a cursor that is set

-- the used bytes fall by the padded block
pub dealloc_used : (state : State) (block : Place) → IsValid state → IsTrue (is_place_used state block)
    → block.addr ≡ cursor_of state.chunks
    → used_bytes (dealloc state block.addr block.size) + padded_size state.min_align block.addr block.size ≡ used_bytes state
dealloc_used state block valid used at =
    let q : ℕ = up (block.addr + block.size) state.min_align in
    let back = is_return state block.addr block.size q valid at (block_end state block valid used at) refl in
    let above = up_ge (block.addr + block.size) state.min_align (min_align_positive state.min_align valid.min_align) in
    rw back.step (omega (arith, used_at state q valid back.low back.high, at, above))

-- a block away from the cursor leaves the number of used bytes
pub dealloc_used_elsewhere : (state : State) (p size : ℕ) → (p ≡ cursor_of state.chunks → ⊥)
    → used_bytes (dealloc state p size) ≡ used_bytes state
dealloc_used_elsewhere state p size other = ap (λ (s : State). used_bytes s) (dealloc_elsewhere state p size other)

-- from a multiple of the least alignment, a size that is one has no padding
pub padded_exact : (m p size : ℕ) → 0 < m → p % m ≡ 0 → size % m ≡ 0 → padded_size m p size ≡ size
padded_exact m p size positive from by = omega (arith, up_same (p + size) m positive (sum_multiple p size m from by))

pub ruleset dealloc_laws = (dealloc_used, dealloc_used_elsewhere, up_ge, up_close, padded_exact, used_at)

pub ruleset grow_laws = (nat_tests, growth_taken, growth_lower, growth_least, growth_most, growth_exact, growth_exact_at_one, grow_used)

pub ruleset shrink_laws = (nat_tests, down_le, down_close, down_same, unit_positive, shrink_used)
