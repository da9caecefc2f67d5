-- A walk over words.
use Rattle.std.proofs.lemmas.Bool.Decides.{nat_tests}
use Rattle.std.proofs.Common.{◌≡◌, ℕ, ◌+◌, ◌-◌, ◌/◌, ◌%◌, ◌^◌, ◌<◌, ◌≤◌, ◌*◌, List, [], ◌∷◌, length, false, eqb, get_or, ap, ◌∙◌, sym, arith, inl, inr, w64, Option}
use Rattle.std.proofs.lemmas.Bool.{cases_eq, cases_lt}
use Rattle.std.proofs.lemmas.Nat.{trailing_le}
use Rattle.std.proofs.lemmas.Nat.Bits.{bit_at-zero, bit_at-trailing_zeros, bit_at_clear_same, bit_at_clear_other}
use Rattle.std.proofs.lemmas.Iterator.{YieldsList}
use Rattle.std.proofs.lemmas.Iterator.Consumers.{YieldsList-from_shown}
use Rattle.std.specs.Prelude.{bit_and}
use Rattle.std.specs.Int.{bit_at, bit_not, trailing_zeros}
use Rattle.std.specs.Int.Count.{count_trailing_zeros}
use Rattle.std.specs.Iterator.{YieldsFirst}
use Rattle.std.specs.Option.{MatchOption}
use Rattle.arena_bits.specs.Bits.{Set, bits_of, members}
use Rattle.arena_bits.specs.Walks.{Walk, Goes, IsScan}
use Rattle.arena_bits.specs.declared.ones.Scan.{Scan}
use Rattle.arena_bits.proofs.MemberLemmas.{members_skip, members_first, members_none}

module _ (words : List ℕ) (capacity : ℕ) where
  -- a whole word
  pub scan_word : (base word : ℕ) → word ≡ get_or words (base / 64) 0 → base % 64 ≡ 0 → base ≤ capacity
      → IsScan words capacity (record { base = base; rest = word; front = base })
  unfolding bits_of
  scan_word base word is aligned bounded = grind (arith, nat_tests)

  module _ (s : Scan) (scan : IsScan words capacity s) where
    -- Numbers of the word whose bits are 0 aren't in the set.
    not_here : (to : ℕ) → to ≤ s.base + 64 → ((j : ℕ) → s.base + j < to → bit_at s.rest j ≡ 0)
        → (n : ℕ) → s.front ≤ n → n < to → bits_of words n ≡ false
    unfolding bits_of
    not_here to within clear n low high = grind (arith, nat_tests, eqb)

    -- Nothing is left in the word.
    pub scan_skip : s.rest ≡ 0 → s.base + 64 ≤ capacity
        → members (bits_of words) (s.base + 64) capacity ≡ members (bits_of words) s.front capacity
    scan_skip none more = grind (arith, nat_tests, members_skip, not_here, bit_at-zero)

    module _ (fits : s.rest < 2 ^ 64) (last : s.rest ≡ 0 → capacity ≤ s.base + 64) where
      abbrev place : ℕ
      place = trailing_zeros w64 s.rest

      -- Below its lowest bit a word has none; a lowest bit below the capacity is one of the word.
      lowest : ((j : ℕ) → j < place → bit_at s.rest j ≡ 0) × (place < capacity - s.base → (place < 64) × (bit_at s.rest place ≡ 1))
      unfolding count_trailing_zeros
      lowest = elim (cases_lt 0 s.rest) [
        | inl some ↦ (let low = bit_at-trailing_zeros w64 s.rest some fits in (low.2, λ below. (low.0, low.1)))
        | inr none ↦ (
            let zero : s.rest ≡ 0 = omega arith in
            let all : place ≡ 64 = ap (trailing_zeros w64) zero in
            (λ j low. rw zero (bit_at-zero j), λ below. absurd (omega (arith, last zero)))
            )
      ]

      -- The lowest bit is at the capacity or past it, or there is none: no number is left.
      module _ (late : capacity - s.base ≤ trailing_zeros w64 s.rest) where
        pub scan_ended : members (bits_of words) s.front capacity ≡ []
        scan_ended =
            members_none (bits_of words) s.front capacity
            (not_here capacity (omega (arith, trailing_le 64 s.rest)) (λ j low. lowest.0 j (omega arith)))

        pub scan_over : IsScan words capacity (record { base = s.base; rest = s.rest; front = capacity })
        scan_over = grind (arith, nat_tests, trailing_le, lowest)

      -- The lowest bit is below the capacity: it is the next number.
      module _ (below : trailing_zeros w64 s.rest < capacity - s.base) where
        pub place_fits : trailing_zeros w64 s.rest < 64
        place_fits = (lowest.1 below).0

        not_passed : s.front ≤ s.base + place
        not_passed = grind (arith, scan.passed place, (lowest.1 below).1)

        pub scan_first : members (bits_of words) s.front capacity
            ≡ (s.base + trailing_zeros w64 s.rest) ∷ members (bits_of words) (s.base + trailing_zeros w64 s.rest + 1) capacity
        scan_first =
            members_skip (bits_of words) s.front (s.base + place) capacity not_passed (omega arith)
            (not_here (s.base + place) (omega (arith, place_fits)) (λ j low. lowest.0 j (omega arith)))
            ∙ members_first (bits_of words) (s.base + place) capacity (omega arith)
            (sym (scan.rest place place_fits not_passed) ∙ ap (λ b. eqb b 1) (lowest.1 below).1)

        pub scan_next : IsScan words capacity (record {
          base = s.base;
          rest = bit_and s.rest (bit_not w64 (1 * 2 ^ trailing_zeros w64 s.rest % 2 ^ 64));
          front = s.base + trailing_zeros w64 s.rest + 1;
        })
        scan_next = record {
          aligned = scan.aligned;
          order = omega arith;
          within = omega (arith, place_fits);
          bounded = omega arith;
          passed = λ j low. elim (cases_eq j place) [
            | inl same ↦ rw same (bit_at_clear_same w64 s.rest place place_fits)
            | inr other ↦ bit_at_clear_other w64 s.rest place place_fits j (omega (arith, place_fits)) other ∙ lowest.0 j (omega arith)
          ];
          rest = λ j small low.
              ap (λ b. eqb b 1) (bit_at_clear_other w64 s.rest place place_fits j small (omega arith))
              ∙ scan.rest j small (omega (arith, not_passed));
        }

-- what one call of `next` gave
pub walk_yields : (set : Set) (front to : ℕ) (r : Option ℕ) (after : ℕ) → MatchOption r (after ≡ to) (λ n. after ≡ n + 1)
    → MatchOption r (members set front to ≡ []) (λ n. members set front to ≡ n ∷ members set (n + 1) to)
    → YieldsFirst (λ (xs : List ℕ). xs) (members set front to) r (members set after to)
walk_yields set front to r after at first = grind (arith, nat_tests, members_none)

-- All calls of `next` together give what is left, in order.
pub walk_gives_all : (walk : Walk) → YieldsList Goes (λ n. n) walk walk.left
walk_gives_all walk = YieldsList-from_shown Goes (λ n. n) (λ w. w.left) (λ old new goes. ap length goes.0.0) (λ old n new goes. goes.0) walk

-- for automatic proof
pub ruleset step_laws = (scan_ended, place_fits, scan_first)
