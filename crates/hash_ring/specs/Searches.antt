-- Where searches along the ring end.
use Rattle.std.specs.Prelude.{◌≡◌, ℕ, ◌<◌, ◌≤◌, min, Option, Some, List, slice_get}
use Rattle.hash_ring.specs.Slots.{spot, Lacks, IsBehind, IsPlaceFor}
use Rattle.hash_ring.specs.Marks.{home_of, mark_of}
use Rattle.hash_ring.specs.declared.marks.Spot.{Spot}
use Rattle.hash_ring.specs.declared.marks.Spot.TheVariants.{Taken, Open}

-- the least mark that doesn't give the distance
abbrev pub far_mark : ℕ
far_mark = 240

module _ {X : Type 0} (home : X → ℕ) (n : ℕ) (slots : List (Option X)) where
  -- For each e < d, the slot e after a home holds an item at least e from its own home; from 14 on, marks only show
  -- that it is at least 14.
  pub record IsPassed (start d : ℕ) : Type 0 where
    pub behind : (e : ℕ) → e < d → IsBehind home n slots (spot n start e) (min e 14)

  -- Where a pair with this hash goes, and its mark. If the mark is far, the first 14 slots are passed, and no more is
  -- said.
  pub record IsSpotFor (hash at mark : ℕ) : Type 0 where
    pub distance : ℕ
    pub mark_is : mark ≡ mark_of hash distance
    pub near : mark < far_mark → IsPlaceFor home n slots (home_of n hash) at distance
    pub far : far_mark ≤ mark → IsPassed (home_of n hash) 14

  -- Where the search for a content with this hash ended: at the slot that has it, or where it would go.
  abbrev pub Ends : (X → List ℕ) → List ℕ → ℕ → Spot → Type 0
  Ends content q hash (Taken at) = (x : X) × (slice_get slots at ≡ Some (Some x)) × (content x ≡ q)
  Ends content q hash (Open at mark) = Lacks content slots q × (0 < n → IsSpotFor hash at mark)
