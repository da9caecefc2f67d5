-- What a resized block is apart from.
use Rattle.std.proofs.Common.{◌≡◌, ℕ, zero, suc, ◌+◌, ◌-◌, ◌<◌, ◌≤◌, inl, inr, arith, IsTrue, Option, Some, None}
use Rattle.std.specs.Prelude.{IfSome}
use Rattle.std.proofs.lemmas.Bool.Decides.{nat_tests}
use Rattle.arena_rules.specs.State.{AreApart}
use Rattle.arena_cursor.specs.Steps.{is_valid, is_in_use, MovesTo, IsResized}
use Rattle.arena_cursor.specs.declared.cursor.Cursor.{Cursor}
use Rattle.arena_cursor.proofs.PlaceLemmas.{valid_is}

-- a block in use is between the cursor and the end
record IsUsed (at : Cursor) (addr size : ℕ) : Type 0 where
  low : at.cursor ≤ addr
  high : addr + size ≤ at.end

used_is : (at : Cursor) (addr size : ℕ) → IsTrue (is_in_use at addr size) → IsUsed at addr size
used_is at addr size is = record { low = grind (arith, nat_tests); high = grind (arith, nat_tests) }

is_used : (at : Cursor) (addr size : ℕ) → at.cursor ≤ addr → addr + size ≤ at.end → IsTrue (is_in_use at addr size)
is_used at addr size low high = grind (arith, nat_tests)

-- a block from this address on that is apart from one at it begins past it
past : (addr size q n : ℕ) → AreApart addr size q n → addr ≤ q → 0 < n → addr + size ≤ q
past addr zero q n apart low some = omega (arith, low)
past addr (suc k) q n apart low some = elim (apart (omega arith) some) [
  | inl below ↦ below
  | inr above ↦ absurd (omega (arith, low, some, above))
]

-- one at or below the old cursor
below_cursor : (old new : Cursor) (addr size q m : ℕ) → IsTrue (is_valid old) → new ≡ record old { cursor = q } → q + m ≤ old.cursor
    → IsResized old new addr size q m
below_cursor old new addr size q m valid moves high =
    let top = (valid_is old valid).high in
    rw moves (record {
      used = is_used (record old { cursor = q }) q m (omega arith) (omega (arith, top, high));
      apart = λ p n used apart some other.
          let low = (used_is old p n used).low in inl (omega (arith, low, high));
    })

-- one that is allocated, if there is a place
pub resized_by_alloc : (old mid new : Cursor) (addr size m : ℕ) (answer : Option ℕ) → IsTrue (is_valid old) → mid ≡ old
    → MovesTo mid new answer → IfSome answer (λ p. p + m ≤ mid.cursor) → IfSome answer (λ q. IsResized old new addr size q m)
resized_by_alloc old mid new addr size m None valid same moves high = tt
resized_by_alloc old mid new addr size m (Some q) valid same moves high =
    below_cursor old new addr size q m valid (rw same at moves) (rw same at high)

-- one at the cursor that moves down
pub resized_down : (old new : Cursor) (addr size q m n : ℕ) → IsTrue (is_in_use old addr size) → addr ≡ old.cursor
    → MovesTo old new (Some q) → size ≤ m → m ≤ n → q + (n - size) ≤ old.cursor → IsResized old new addr size q m
resized_down old new addr size q m n used here moves more pads high =
    let top = (used_is old addr size used).high in
    rw moves (record {
      used = is_used (record old { cursor = q }) q m (omega arith) (omega (arith, here, top, more, pads, high));
      apart = λ p k other apart some size_some.
          let low = (used_is old p k other).low in
          let beyond = past addr size p k apart (omega (arith, low, here)) size_some in
          inl (omega (arith, here, more, pads, high, beyond));
    })

-- one within the old block
within : (old new : Cursor) (addr size q m : ℕ) → IsTrue (is_in_use new q m) → addr ≤ q → q + m ≤ addr + size
    → IsResized old new addr size q m
within old new addr size q m used low high = record {
  used = used;
  apart = λ p n other apart some size_some. elim (apart (omega (arith, low, high, some)) size_some) [
    | inl below ↦ inl (omega (arith, high, below))
    | inr above ↦ inr (omega (arith, low, above))
  ];
}

-- that stays
pub resized_here : (at : Cursor) (addr size m : ℕ) → IsTrue (is_in_use at addr size) → m ≤ size → IsResized at at addr size addr m
resized_here at addr size m used less =
    let is = used_is at addr size used in
    let low = is.low in
    let high = is.high in
    within at at addr size addr m (is_used at addr m low (omega (arith, high, less))) (omega arith) (omega (arith, less))

-- or moves up with the cursor
pub resized_up : (at : Cursor) (addr size m up : ℕ) → IsTrue (is_in_use at addr size) → m ≤ size → up ≤ size - m
    → IsResized at (record at { cursor = addr + up }) addr size (addr + up) m
resized_up at addr size m up used less small =
    let high = (used_is at addr size used).high in
    within at (record at { cursor = addr + up }) addr size (addr + up) m
    (is_used (record at { cursor = addr + up }) (addr + up) m (omega arith) (omega (arith, high, less, small)))
    (omega arith) (omega (arith, less, small))
