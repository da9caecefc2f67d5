-- Searches along the ring by marks.
use Rattle.std.proofs.lemmas.Bool.Decides.{nat_tests}
use Rattle.std.proofs.Common.{◌≡◌, ℕ, ◌+◌, ◌*◌, ◌/◌, ◌%◌, ◌^◌, ◌<◌, ◌≤◌, ◌⊎◌, inl, inr, List, length, min, sym, subst, ◌∙◌, arith, Some, None, Option}
use Rattle.std.proofs.Math.Nat.{mod-lt}
use Rattle.std.specs.Prelude.{slice_get}
use Rattle.hash_ring.specs.Searches.{IsPassed, IsSpotFor}
use Rattle.hash_ring.specs.Slots.{spot, items, Lacks, IsAway, IsBehind, IsOrdered}
use Rattle.hash_ring.specs.Marks.{home_of, mark_of}
use Rattle.hash_ring.proofs.Find.{AreTaken, Passed, IsReached, Stops, taken-less, passed-lacks, place-for, away-start}
use Rattle.hash_ring.proofs.Order.{away-of, behind-by}
use Rattle.hash_ring.proofs.Places.{slot-cases, not_free}
use Rattle.hash_ring.proofs.RingLemmas.{below-next, spot-less}

-- ---- What marks show

tag-less : (hash : ℕ) → hash / 2 ^ 60 % 16 < 16
tag-less hash = mod-lt (hash / 2 ^ 60) (omega arith)

-- the least mark of a distance
pub mark-least : (hash d : ℕ) → mark_of hash d / 16 * 16 ≡ min (d + 1) 15 * 16
mark-least hash d = omega (arith, tag-less hash)

-- a lower mark is of a free slot, or of an item that is nearer
pub mark-near : (hash hash' d e : ℕ) → mark_of hash' e < mark_of hash d / 16 * 16 → (e < d) × (e < 14)
mark-near hash hash' d e h = (omega (arith, mark-least hash d, h), omega (arith, mark-least hash d, h))

-- any other mark is of an item that is as far, as far as marks show
pub mark-far : (hash hash' d e : ℕ) → mark_of hash d / 16 * 16 ≤ mark_of hash' e → min d 14 ≤ e
mark-far hash hash' d e h = omega (arith, mark-least hash d, tag-less hash', h)

-- ---- Walks

module _ {X : Type 0} (home : X → ℕ) (n start : ℕ) (slots : List (Option X)) where
  -- before the first slot
  pub mark-passed-none : IsPassed home n slots start 0
  mark-passed-none = record { behind = λ e h. absurd (omega arith) }

  -- one slot more
  pub mark-passed-more : (d : ℕ) (y : X) (e : ℕ) → IsPassed home n slots start d → IsAway home n slots (spot n start d) y e → min d 14 ≤ e
      → IsPassed home n slots start (d + 1)
  mark-passed-more d y e p a h = record {
    behind = λ f l. elim (below-next f d l) [
      | inl i ↦ p.behind f i
      | inr i ↦
          subst (λ m. IsBehind home n slots (spot n start m) (min m 14)) (sym i) (behind-by home n (min d 14) a h)
    ];
  }

  -- all that was passed is taken
  pub mark-passed-taken : (d : ℕ) → IsPassed home n slots start d → AreTaken n start slots d
  mark-passed-taken d p = record { taken = λ e h t. let b = p.behind e h in not_free b.item (sym b.away.there ∙ t) }

  -- as far as marks show, the walk is the one by distance
  pub mark-passed-reached : (d : ℕ) → d ≤ 15 → IsPassed home n slots start d → IsReached home n start slots d
  mark-passed-reached d h p = grind (arith, nat_tests)

-- Slots with a mark for each: 0 if it is free, and otherwise by the hash of its item and its distance.
module _ {X : Type 0} (hash : X → ℕ) (n : ℕ) (some : 0 < n) (slots : List (Option X)) (mark : ℕ → ℕ) where
  abbrev home : X → ℕ
  home x = home_of n (hash x)

  homes : (x : X) → home_of n (hash x) < n
  homes x = mod-lt (hash x) some

  pub record AreMarked : Type 0 where
    pub ordered : IsOrdered home n slots
    pub free : (i : ℕ) → slice_get slots i ≡ Some None → mark i ≡ 0
    pub marks : (i d : ℕ) (x : X) → IsAway home n slots i x d → mark i ≡ mark_of (hash x) d

  module _ (are : AreMarked) where
    -- a slot is free, or holds an item at some distance from its home, with its mark
    pub marked-cases : (i : ℕ) → i < n → ((slice_get slots i ≡ Some None) × (mark i ≡ 0))
        ⊎ ((x : X) × (d : ℕ) × IsAway home n slots i x d × (mark i ≡ mark_of (hash x) d))
    marked-cases i h = elim (slot-cases slots i (omega (arith, are.ordered.long))) [
      | inl s ↦ inl (s, are.free i s)
      | inr x ↦
          let a = away-of home n homes slots i x.0 are.ordered.long x.1 in
          inr (x.0, a.0, a.1, are.marks i a.0 x.0 a.1)
    ]

    module _ (h d : ℕ) (less : d < n) where
      at_less : spot n (home_of n h) d < n
      at_less = spot-less n (home_of n h) d (mod-lt h some) less

      -- a mark that isn't lower: the slot is passed
      pub marked-passes : IsPassed home n slots (home_of n h) d → mark_of h d / 16 * 16 ≤ mark (spot n (home_of n h) d)
          → IsPassed home n slots (home_of n h) (d + 1)
      marked-passes p m = elim (marked-cases (spot n (home_of n h) d) at_less) [
        | inl s ↦ absurd (omega (arith, s.1, m, mark-least h d))
        | inr a ↦
            let far : min d 14 ≤ a.1 = mark-far h (hash a.0) d a.1 (subst (λ k. mark_of h d / 16 * 16 ≤ k) a.3 m) in
            mark-passed-more home n (home_of n h) slots d a.0 a.1 p a.2 far
      ]

      -- a lower one: the walk stops there
      pub marked-stops : mark (spot n (home_of n h) d) < mark_of h d / 16 * 16 → Stops home n (home_of n h) slots d
      marked-stops m = record {
        nearer =
            λ y e a. (mark-near h (hash y) d e (subst (λ k. k < mark_of h d / 16 * 16) (are.marks (spot n (home_of n h) d) e y a) m)).0;
      }

      -- this is where a pair with the hash goes
      pub marked-spot : IsPassed home n slots (home_of n h) d → Stops home n (home_of n h) slots d
          → IsSpotFor home n slots h (spot n (home_of n h) d) (mark_of h d)
      marked-spot p stop = grind (arith, nat_tests, place-for, homes)

      -- an item with the hash has that mark there
      pub marked-same : (x : X) → slice_get slots (spot n (home_of n h) d) ≡ Some (Some x) → hash x ≡ h
          → mark (spot n (home_of n h) d) ≡ mark_of h d
      marked-same x s e = grind (arith, nat_tests, away-of, homes, away-start, mod-lt)

    -- a walk meets a free slot in less than a round
    pub marked-less : (h d : ℕ) → length (items slots) < n → IsPassed home n slots (home_of n h) d → d < n
    marked-less h d room p =
        taken-less n (home_of n h) slots d are.ordered.long room (mod-lt h some)
        (mark-passed-taken home n (home_of n h) slots d p)

    -- where a search stops, no slot holds the content
    pub marked-lacks : (content : X → List ℕ) (q : List ℕ) (h d : ℕ)
        → ((j : ℕ) (x : X) → slice_get slots j ≡ Some (Some x) → content x ≡ q → hash x ≡ h)
        → Passed n content q (home_of n h) slots d → Stops home n (home_of n h) slots d → Lacks content slots q
    marked-lacks content q h d hashed p stop = grind (arith, nat_tests, passed-lacks, homes, mod-lt)
