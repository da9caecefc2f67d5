-- A walk over slots, sixty-four marks at a time.
use Rattle.std.proofs.lemmas.Bool.Decides.{nat_tests}
use Rattle.std.proofs.Common.{◌≡◌, ℕ, suc, ◌+◌, ◌-◌, ◌%◌, ◌^◌, ◌<◌, ◌≤◌, ◌≢◌, ◌↔◌, inl, inr, List, [], ◌∷◌, take, drop, length, eqb, sym, ap, subst, ◌∙◌, arith, w64, bit_and, Some, None, Option, zero, refl}
use Rattle.std.proofs.lemmas.Bool.{cases_eq, cases_lt, eq-eqb, ne_eqb, cond-true, cond-false}
use Rattle.std.proofs.lemmas.List.{get_or-take, get_or_past, drop_all}
use Rattle.std.proofs.lemmas.Nat.{and_le_l, trailing_le}
use Rattle.std.proofs.lemmas.Nat.Bits.{bit_at-trailing_zeros}
use Rattle.std.proofs.lemmas.Option.{none-some, slice_get_within}
use Rattle.std.specs.Int.{bit_at, trailing_zeros}
use Rattle.std.specs.Int.Count.{count_trailing_zeros}
use Rattle.std.specs.Prelude.{slice_get, slice_index}
use Rattle.hash_ring.specs.Slots.{items}
use Rattle.hash_ring.specs.Walks.{front_of, IsByGroups, IsScan, AreTaken, AreFree, GoesOn}
use Rattle.hash_ring.specs.declared.scan.Scan.{Scan}
use Rattle.hash_ring.proofs.Lanes.{below-lowest, cleared}
use Rattle.hash_ring.proofs.Places.{same_item, not_free}

-- the walk is at its lowest bit, or at the end of its sixty-four if it has none
pub front-is : (s : Scan) → front_of s ≡ s.base + trailing_zeros w64 s.rest
unfolding count_trailing_zeros
front-is s = grind (arith, nat_tests, cases_eq, cond-true, eqb, w64, eq-eqb, cond-false, ne_eqb)

-- a walk over many comes to whole sixty-fours
pub group-whole : (n base : ℕ) → IsByGroups n → base % 64 ≡ 0 → base + 64 < n → base + 64 + 64 ≤ n
group-whole n base groups aligned more = elim groups [ inl few ↦ omega arith | inr whole ↦ omega arith ]

-- the marks of a front are those of all bytes
pub taken-take : (n : ℕ) (bytes : List ℕ) (base bits : ℕ) → base + 64 ≤ n → AreTaken bytes base bits → AreTaken (take n bytes) base bits
taken-take n bytes base bits h taken j k = grind (arith, nat_tests, get_or-take)

module _ (n : ℕ) (marks : List ℕ) where
  -- where the bits from a place on are those of the marks, no mark from there up to the position is set
  front-free : (s : Scan) (from : ℕ) → s.rest < 2 ^ 64 → s.base ≤ from
      → ((j : ℕ) → j < 64 → from ≤ s.base + j → (bit_at s.rest j ≡ 1) ↔ (slice_index marks (s.base + j) ≢ 0))
      → AreFree marks from (front_of s)
  front-free s from fits begun taken i a b = elim (cases_eq (slice_index marks i) 0) [
    | inl e ↦ e
    | inr m ↦
        let at : s.base + (i - s.base) ≡ i = omega arith in
        let below : i - s.base < trailing_zeros w64 s.rest = omega (arith, front-is s) in
        let bit : bit_at s.rest (i - s.base) ≡ 1 =
        (taken (i - s.base) (omega (arith, trailing_le 64 s.rest)) (omega arith)).1 (subst (λ p. slice_index marks p ≢ 0) (sym at) m) in
        absurd (omega (arith, bit, below-lowest s.rest fits (i - s.base) below))
  ]

  -- sixty-four that the walk comes to: up to its position, no mark is set
  pub taken-free : (s : Scan) → s.rest < 2 ^ 64 → AreTaken marks s.base s.rest → AreFree marks s.base (front_of s)
  taken-free s fits taken = front-free s s.base fits (omega arith) (λ j h f. taken j h)

  -- The walk is at a taken slot. Its bit is cleared.
  module _ (s : Scan) (scan : IsScan n marks s) (some : 0 < s.rest) (fits : s.rest < 2 ^ 64) where
    abbrev low : ℕ
    low = trailing_zeros w64 s.rest

    abbrev on : Scan
    on = record { base = s.base; rest = bit_and s.rest (s.rest - 1) }

    lowest : (low < 64) × (bit_at s.rest low ≡ 1)
    lowest = let r = bit_at-trailing_zeros w64 s.rest some fits in (r.0, r.1)

    scan-taken : slice_index marks (s.base + low) ≢ 0
    scan-taken = (scan.taken low lowest.0 (omega (arith, front-is s))).0 lowest.1

    less : on.rest < 2 ^ 64
    less = omega (arith, and_le_l s.rest (s.rest - 1))

    -- the walk has moved on
    scan-farther : s.base + low < front_of on
    unfolding count_trailing_zeros
    scan-farther = elim (cases_lt low (trailing_zeros w64 on.rest)) [
      | inl l ↦ omega (arith, front-is on)
      | inr l ↦ elim (cases_eq on.rest 0) [
        | inl none ↦ absurd (omega (arith, lowest.0, ap (trailing_zeros w64) none))
        | inr some' ↦
            absurd (omega (
              arith,
              (bit_at-trailing_zeros w64 on.rest (omega arith) less).1,
              (cleared s.rest some fits (trailing_zeros w64 on.rest)).0 l,
            ))
      ]
    ]

    -- the bits above the slot are those of the marks
    above : (j : ℕ) → j < 64 → low < j → (bit_at on.rest j ≡ 1) ↔ (slice_index marks (s.base + j) ≢ 0)
    above j h l = grind (arith, nat_tests, cleared, front-is)

    pub scan-step : IsScan n marks on
    scan-step = grind (arith, nat_tests, above, scan-farther)

    -- there it goes on, from where it began
    pub scan-goes : (first : Scan) → front_of first ≤ front_of s → AreFree marks (front_of first) (front_of s) → length marks ≤ n
        → GoesOn n marks first (s.base + trailing_zeros w64 s.rest) on
    scan-goes first before free few = record {
      less = elim (cases_lt (s.base + low) n) [
        | inl l ↦ l
        | inr l ↦ absurd (scan-taken (get_or_past marks (s.base + low) 0 (omega arith)))
      ];
      taken = scan-taken;
      before = omega (arith, front-is s);
      over = λ i a b. free i a (omega (arith, front-is s));
      on = scan-farther;
      behind = front-free on (s.base + low + 1) less (omega arith) (λ j h f. above j h (omega arith));
    }

  -- if none is left, the walk comes to the next sixty-four
  pub scan-group : (first s t : Scan) → IsScan n marks s → s.rest ≡ 0 → t.base ≡ s.base + 64 → t.base < n → t.rest < 2 ^ 64
      → AreTaken marks t.base t.rest → front_of first ≤ front_of s → AreFree marks (front_of first) (front_of s)
      → IsScan n marks t × (front_of first ≤ front_of t) × AreFree marks (front_of first) (front_of t)
  unfolding count_trailing_zeros
  scan-group first s t scan none base within fits taken before free =
      let end : front_of s ≡ t.base = front-is s ∙ ap (λ w. s.base + trailing_zeros w64 w) none ∙ sym base in (
        record { aligned = omega (arith, base, scan.aligned); within = omega arith; taken = λ j h f. taken j h },
        omega (arith, before, end, front-is t),
        λ i a b. elim (cases_lt i (front_of s)) [ inl k ↦ free i a k | inr k ↦ taken-free t fits taken i (omega (arith, end)) b ],
      )

-- ---- What a walk over slots has left

-- if no item is from one place up to another, the same items are left at both
left-over : {X : Type 0} (slots : List (Option X)) (i j : ℕ) → i ≤ j
    → ((k : ℕ) (x : X) → i ≤ k → k < j → slice_get slots k ≡ Some (Some x) → ⊥) → items (drop i slots) ≡ items (drop j slots)
left-over [] i j h none = ap items (drop_all i [] (omega arith) ∙ sym (drop_all j [] (omega arith)))
left-over (z ∷ xs) zero zero h none = refl
left-over (None ∷ xs) zero (suc j) h none = left-over xs zero j (omega arith) (λ k x a b. none (suc k) x (omega arith) (omega arith))
left-over (Some x ∷ xs) zero (suc j) h none = absurd (none 0 x (omega arith) (omega arith) refl)
left-over (z ∷ xs) (suc i) zero h none = absurd (omega arith)
left-over (z ∷ xs) (suc i) (suc j) h none = left-over xs i j (omega arith) (λ k x a b. none (suc k) x (omega arith) (omega arith))

-- at a taken slot its item comes first
left-taken : {X : Type 0} (slots : List (Option X)) (i : ℕ) (x : X) → slice_get slots i ≡ Some (Some x)
    → items (drop i slots) ≡ x ∷ items (drop (suc i) slots)
left-taken [] i x s = absurd (none-some (Some x) s)
left-taken (None ∷ xs) zero x s = absurd (not_free x (sym s))
left-taken (Some z ∷ xs) zero x s = ap (λ w. w ∷ items xs) (same_item z x s)
left-taken (z ∷ xs) (suc i) x s = left-taken xs i x s

-- ---- What is left in slots that are free if their marks are 0

module _ {X : Type 0} (n : ℕ) (marks : List ℕ) (slots : List (Option X)) (long : length slots ≡ n)
    (free : (i : ℕ) → i < n → slice_index marks i ≡ 0 → slice_get slots i ≡ Some None) where
  -- no item is in a slot whose mark isn't set
  pub nothing : (i j : ℕ) → AreFree marks i j → (k : ℕ) (x : X) → i ≤ k → k < j → slice_get slots k ≡ Some (Some x) → ⊥
  nothing i j none k x from to s = grind (arith, nat_tests, not_free, slice_get_within)

  -- over slots with no mark
  pub left-clear : (i j : ℕ) → i ≤ j → AreFree marks i j → items (drop i slots) ≡ items (drop j slots)
  left-clear i j h none = left-over slots i j h (nothing i j none)

  -- no item is left if no mark after it is set
  pub left-end : (i : ℕ) → AreFree marks i n → items (drop i slots) ≡ []
  left-end i none =
      left-over slots i (i + n) (omega arith)
      (λ k x a b s. nothing i n none k x a (omega (arith, long, slice_get_within slots k (Some x) s)) s)
      ∙ ap items (drop_all (i + n) slots (omega (arith, long)))

  -- at a taken slot its item, and what is left after it
  pub left-goes : (s t : Scan) (at : ℕ) (x : X) → GoesOn n marks s at t → slice_get slots at ≡ Some (Some x)
      → items (drop (front_of s) slots) ≡ x ∷ items (drop (front_of t) slots)
  left-goes s t at x g there =
      left-clear (front_of s) at g.before g.over
      ∙ (left-taken slots at x there
      ∙ ap (λ ys. x ∷ ys) (left-clear (suc at) (front_of t) (omega (arith, g.on)) (λ i a b. g.behind i (omega arith) b)))
