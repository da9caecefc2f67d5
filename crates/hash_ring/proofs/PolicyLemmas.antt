-- The clauses on bytes, as inequalities.
use Rattle.std.proofs.Common.{◌≡◌, ℕ, zero, suc, ◌+◌, ◌-◌, ◌*◌, ◌/◌, ◌^◌, ◌<◌, ◌≤◌, ◌⊎◌, inl, inr, max, refl, ap, ◌∙◌, pow-add, arith}
use Rattle.std.proofs.Math.Nat.{mul-le-mul_left, mul-le-mul_right, mul_comm, mul-suc, pow-suc, pow-le-pow_right, one-le-pow}
use Rattle.std.proofs.lemmas.Bool.Decides.{nat_tests}
use Rattle.std.specs.Int.{IsPowerOfTwo}
use Rattle.hash_ring.specs.Policy.{most_pairs, slot_size, table_align, unit, limit, spare, credit, IsSlotsFor, next_slots}
use Rattle.hash_ring.specs.Marks.{IsRing}
use Rattle.std.proofs.lemmas.Bool.{cases_lt}

-- ---- Powers of two

-- A power of two below another is at most its half.
pub power-below : (n k : ℕ) → IsPowerOfTwo n → n < 2 ^ suc k → n ≤ 2 ^ k
power-below n k is less = grind (arith, nat_tests, cases_lt, pow-le-pow_right)

-- A power of two from eight on is a multiple of eight.
pub power-eights : (n : ℕ) → IsPowerOfTwo n → 8 ≤ n → (m : ℕ) × (n ≡ 8 * m) × (1 ≤ m)
power-eights n is least = elim (cases_lt is.0 3) [
  | inl small ↦ (
      let few : 2 ^ is.0 ≤ 2 ^ 2 = pow-le-pow_right (omega arith) (let le : is.0 ≤ 2 = omega arith in le) in
      absurd (omega (arith, is.1)))
  | inr more ↦ (
      let split : 2 ^ is.0 ≡ 2 ^ 3 * 2 ^ (is.0 - 3) = ap (λ e. 2 ^ e) (let sum : is.0 ≡ 3 + (is.0 - 3) = omega arith in sum) ∙ pow-add 2 3
      (is.0 - 3) in
      (2 ^ (is.0 - 3), is.1 ∙ split, one-le-pow (is.0 - 3) 2 (omega arith)))
]

-- The table for n pairs is a ring,
pub slots-ring : (pairs slots : ℕ) → pairs < 2 ^ 32 → IsSlotsFor pairs slots → IsRing slots
slots-ring pairs slots few is = (is.0, omega (arith, is.1), power-below slots 33 is.0 (omega (arith, is.1, is.2)))

-- so is the next table.
next-zero : (slots : ℕ) → slots ≡ 0 → next_slots slots ≡ 16
next-zero slots h = rw h refl

next-some : (slots : ℕ) → 0 < slots → next_slots slots ≡ 2 * slots
next-some slots h = grind (arith, nat_tests)

pub next-ring : (slots len : ℕ) → (slots ≡ 0) ⊎ IsRing slots → limit slots ≤ len → len < most_pairs → IsRing (next_slots slots)
next-ring slots len ring full few = elim ring [
  | inl none ↦ rw (next-zero slots none) ((4, refl), omega arith, omega arith)
  | inr is ↦ (
      let twice : 2 * slots ≡ 2 ^ suc is.0.0 = omega (arith, is.0.1, pow-suc 2 is.0.0) in
      rw (next-some slots (omega (arith, is.1)))
      ((suc is.0.0, twice), omega (arith, is.1), power-below (2 * slots) 33 (suc is.0.0, twice) (omega arith)))
]

-- A table without room is full to its limit, and the next one has room.
pub next-room : (slots len : ℕ) → (slots ≡ 0) ⊎ IsRing slots → len ≤ limit slots → len < most_pairs → len + 1 ≤ limit (next_slots slots)
next-room slots len ring within few = grind (arith, nat_tests, next-zero, next-some)

-- ---- Bytes

-- Eight slots and the padding of a block cost at most a unit, even if the arena's least alignment is greater.
pub unit-covers : (k v ka va : ℕ) → 8 * slot_size k v + (max (table_align ka va) 16 - 1) ≤ unit k v ka va
unit-covers k v ka va = omega arith

-- the size of a table is at most 2 ^ 60
pub table-small : (k v slots : ℕ) → k ≤ 2 ^ 24 → v ≤ 2 ^ 24 → slots ≤ 2 ^ 33 → slots * slot_size k v ≤ 2 ^ 60
table-small k v slots small small' few = grind arith

-- a block has at least the bytes of the pairs
pub table-holds : (k v slots len : ℕ) → len ≤ limit slots → (k + v) * len ≤ slots * slot_size k v
table-holds k v slots len within = grind arith

module _ (size pad u : ℕ) (covers : 8 * size + pad ≤ u) where
  -- this many times eight slots, and the padding of a block
  eights : (m : ℕ) → 8 * m * size + pad ≤ u * m + u
  eights m = let le : 8 * size ≤ u = omega arith in omega (arith, mul-le-mul_left m le, mul_comm m u)

  -- the table for n pairs
  pub capacity-bytes : (pairs slots : ℕ) → 0 < pairs → IsSlotsFor pairs slots → slots * size + pad ≤ u * pairs
  capacity-bytes pairs slots some is = elim (cases_lt 4 pairs) [
    | inl many ↦ (
        let le : slots ≤ 4 * pairs = omega (arith, is.2) in
        let two : 2 ≤ pairs = omega arith in
        omega (arith, mul-le-mul_right size le, mul-le-mul_left u two, eights pairs))
    | inr few ↦ (
        let eight : slots ≤ 2 ^ 3 = power-below slots 3 is.0 (omega (arith, is.2)) in
        omega (arith, mul-le-mul_right size eight, mul-le-mul_left u some, covers))
  ]

  -- the next table: its bytes, its padding and what is saved up afterwards
  pub growth-bytes : (slots len : ℕ) → (slots ≡ 0) ⊎ IsRing slots → len ≤ limit slots → spare slots len ≡ 0 → len < most_pairs
      → next_slots slots * size + pad + credit u (next_slots slots) (len + 1) ≤ 2 * u + credit u slots len
  growth-bytes slots len ring within full few = elim ring [
    | inl none ↦ (
        let after : len + 1 - (16 / 4 + 1) ≡ 0 = omega arith in
        let nothing : u * 0 ≡ 0 = omega arith in
        rw (next-zero slots none, after, nothing) (omega (arith, eights 2)))
    | inr is ↦ (
        let m = power-eights slots is.0 is.1 in
        let half : len ≡ 4 * m.0 = omega (arith, m.1) in
        let after : len + 1 - (2 * slots / 4 + 1) ≡ 0 = omega (arith, m.1, m.2) in
        let before : len - (slots / 4 + 1) ≡ 2 * m.0 - 1 = omega (arith, m.1) in
        let nothing : u * 0 ≡ 0 = omega arith in
        let saved : u * (2 * m.0 - 1) + u ≡ u * (2 * m.0) = less_one (2 * m.0) (omega (arith, m.2)) in
        let bytes : 2 * slots * size ≡ 8 * (2 * m.0) * size = ap (λ n. n * size)
        (let twice : 2 * slots ≡ 8 * (2 * m.0) = omega (arith, m.1) in twice) in
        rw (next-some slots (omega (arith, m.1, m.2)), after, before, nothing) (omega (arith, eights (2 * m.0), saved, bytes)))
  ]
    where
      less_one : (n : ℕ) → 1 ≤ n → u * (n - 1) + u ≡ u * n
      less_one zero h = absurd (omega arith)
      less_one (suc n) h = let e : suc n - 1 ≡ n = omega arith in rw (e, mul-suc) refl

-- ---- What is saved up

-- a new key in a table with room
pub credit-rises : (u slots len : ℕ) → credit u slots (len + 1) ≤ credit u slots len + u
credit-rises u slots len =
    let more : len + 1 - (slots / 4 + 1) ≤ len - (slots / 4 + 1) + 1 = omega arith in
    omega (arith, mul-le-mul_left u more)

-- fewer pairs have no more saved up
pub credit-falls : (u slots a b : ℕ) → a ≤ b → credit u slots a ≤ credit u slots b
credit-falls u slots a b h = grind arith

-- an empty table has nothing saved up
pub credit-none : (u slots : ℕ) → credit u slots 0 ≡ 0
credit-none u slots = grind arith

-- a table for n pairs, with them in it, has at most half as much saved up
pub full-credit : (u pairs slots : ℕ) → IsSlotsFor pairs slots → 2 * credit u slots pairs ≤ u * pairs
full-credit u pairs slots is = grind (arith, nat_tests, mul-le-mul_left)
