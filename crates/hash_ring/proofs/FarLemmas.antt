-- Searches by true distances, from the 14th slot on.
use Rattle.std.proofs.lemmas.Bool.Decides.{nat_tests}
use Rattle.std.proofs.Common.{◌≡◌, ℕ, ◌+◌, ◌%◌, ◌^◌, ◌<◌, ◌≤◌, List, Option, length, ◌∙◌, arith}
use Rattle.std.specs.Int.{IsPowerOfTwo}
use Rattle.hash_ring.specs.Searches.{IsPassed}
use Rattle.hash_ring.specs.Slots.{spot, items, IsAway, IsBehind, IsOrdered, IsPlaceFor}
use Rattle.hash_ring.specs.Marks.{home_of}
use Rattle.hash_ring.proofs.Find.{IsReached, Stops, reached-less, place-for}
use Rattle.hash_ring.proofs.Passing.{mark-passed-reached}
use Rattle.hash_ring.proofs.RingLemmas.{wrap-mod, spot-home}

-- The items before `low` are no nearer to their homes, and the item at `high` is nearer, or a round is over.
pub record IsBetween {X : Type 0} (home : X → ℕ) (n start : ℕ) (slots : List (Option X)) (low high : ℕ) : Type 0 where
  pub far : 14 ≤ low
  pub ordered : low ≤ high
  pub most : high ≤ n
  pub reached : IsReached home n start slots low
  pub stops : high < n → Stops home n start slots high

-- a slot of the ring, counted from a home
pub far-slot : (n h d at : ℕ) → 0 < n → IsPowerOfTwo n → n ≤ 2 ^ 64 → d ≤ n → at ≡ (h + d) % 2 ^ 64 % n → at ≡ spot n (home_of n h) d
far-slot n h d at some power fits most is = is ∙ wrap-mod n (h + d) power fits ∙ spot-home n h d some most

module _ {X : Type 0} (home : X → ℕ) (n : ℕ) (homes : (x : X) → home x < n) (start : ℕ) (slots : List (Option X)) where
  -- the search begins where marks end
  pub between-start : IsPassed home n slots start 14 → IsBetween home n start slots 14 n
  between-start passed = grind (arith, nat_tests, mark-passed-reached)

  module _ (low high probe at : ℕ) (s : IsBetween home n start slots low high) (over : low ≤ probe) (under : probe < high)
      (place : at ≡ spot n start probe) where
    -- the item there is as far: the search continues after it
    pub between-behind : IsBehind home n slots at probe → IsBetween home n start slots (probe + 1) high
    between-behind behind = grind (arith, nat_tests)

    -- it is nearer: the search ends there, or before
    pub between-nearer : ((y : X) (e : ℕ) → IsAway home n slots at y e → e < probe) → IsBetween home n start slots low probe
    between-nearer nearer = grind (arith, nat_tests)

  -- the search is over: this is the place
  pub between-ends : (low high at : ℕ) → IsBetween home n start slots low high → high ≤ low → IsOrdered home n slots → start < n
      → length (items slots) < n → at ≡ spot n start low → (d : ℕ) × (14 ≤ d) × IsPlaceFor home n slots start at d
  between-ends low high at s over ordered begun room place = grind (arith, nat_tests, reached-less, place-for)
