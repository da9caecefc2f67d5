-- Walks over slots by their marks, lists of a map's pairs, and equal maps.
use Rattle.std.specs.Prelude.{◌≡◌, ◌≢◌, ℕ, ◌+◌, ◌%◌, ◌<◌, ◌≤◌, ◌==◌, ◌⊎◌, Bool, List, slice_get}
use Rattle.std.specs.Prelude.{slice_index, Option, Some, None, IsTrue, ◌↔◌, if◌then◌else◌}
use Rattle.std.specs.Int.{w64, bit_at, trailing_zeros}
use Rattle.hash_ring.specs.Slots.{Settled}
use Rattle.hash_ring.specs.declared.scan.Scan.{Scan}
use Rattle.hash_ring.specs.Finite.{Finite, first_of, AreOnce, value_of}

-- The list has each pair of the map once: no two pairs have the same content, and the map of the list is this one.
pub record Lists {K V : Type 0} (content : K → List ℕ) (is : Finite K V) (pairs : List (K × V)) : Type 0 where
  pub once : AreOnce content pairs
  pub map_is : first_of content pairs ≡ is

-- The position of a walk: the first taken slot of the group of sixty-four that it hasn't returned, or the end of the
-- group.
abbrev pub front_of : Scan → ℕ
front_of s = if s.rest == 0 then s.base + 64 else s.base + trailing_zeros w64 s.rest

-- A position in a walk over n marks: from the front on, a bit for each taken slot of the group of sixty-four.
pub record IsScan (n : ℕ) (marks : List ℕ) (s : Scan) : Type 0 where
  pub aligned : s.base % 64 ≡ 0
  pub within : s.base ≤ n
  pub taken : (j : ℕ) → j < 64 → front_of s ≤ s.base + j → (bit_at s.rest j ≡ 1) ↔ (slice_index marks (s.base + j) ≢ 0)

-- for each of sixty-four marks, bit j is set exactly if mark base + j is
abbrev pub AreTaken : List ℕ → ℕ → ℕ → Type 0
AreTaken marks base bits = (j : ℕ) → j < 64 → (bit_at bits j ≡ 1) ↔ (slice_index marks (base + j) ≢ 0)

-- the number of marks is a multiple of 64, or less than 64
abbrev pub IsByGroups : ℕ → Type 0
IsByGroups n = (n < 64) ⊎ (n % 64 ≡ 0)

-- no mark from one place up to another is set
abbrev pub AreFree : List ℕ → ℕ → ℕ → Type 0
AreFree marks from to = (i : ℕ) → from ≤ i → i < to → slice_index marks i ≡ 0

-- A walk over n marks returns slot `at`, the first taken one from its front on, and continues where the next one may
-- be.
pub record GoesOn (n : ℕ) (marks : List ℕ) (old : Scan) (at : ℕ) (new : Scan) : Type 0 where
  pub less : at < n
  pub taken : slice_index marks at ≢ 0
  pub before : front_of old ≤ at
  pub over : AreFree marks (front_of old) at
  pub on : at < front_of new
  pub behind : AreFree marks (at + 1) (front_of new)

-- The next item of a walk over other slots was inserted, and the walk continues after it.
pub record CarriesNext {X : Type 0} (n : ℕ) (marks : List ℕ) (from old new : List (Option X)) (scan next : Scan) : Type 0 where
  pub scan_next : IsScan n marks next
  pub at : ℕ
  pub goes : GoesOn n marks scan at next
  pub settled : (x : X) → slice_get from at ≡ Some (Some x) → Settled old new x

-- two values that are equal, or both missing
abbrev pub AreBoth : {V : Type 0} → (V → V → Bool) → Option V → Option V → Type 0
AreBoth eq None None = Unit {0}
AreBoth eq (Some x) (Some y) = IsTrue (eq x y)
AreBoth eq x y = ⊥

-- The same contents are keys of two maps, and have equal values.
abbrev pub AreEqual : {K V : Type 0} → (V → V → Bool) → Finite K V → Finite K V → Type 0
AreEqual eq one other = (q : List ℕ) → AreBoth eq (value_of (one q)) (value_of (other q))
