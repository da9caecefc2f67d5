-- Two owners of what is shared: the rule, over two words and one slot.
use Rattle.std.specs.Prelude.{◌≡◌, ◌≢◌, ℕ, ◌+◌, ◌≤◌, ◌<◌, [], ◌∷◌, map, length, slice_index, ◌⊎◌, Option, Some, None}
use mathlib.Core.Option.{some, none}
use mathlib.Core.Logic.{◌↔◌}
use lib.ListN.{get_elem?}
use Rattle.atomic_table.specs.Table.{State, Me, Step}
use Rattle.atomic_table.specs.Seated.{TableId}
use Rattle.arena_pool.specs.declared.claims.rule.ClaimView.{ClaimView}
use Rattle.arena_pool.specs.Claiming.{times, IsKept, ClaimedOnce, new_view, with_claimed, with_taken, with_free}
use Rattle.arena_pool.specs.declared.owners.rule.OwnerView.{OwnerView}

-- what contracts see of an owner: its table, what it knows, and what it owns
pub record Owning (X : Type 0) : Type 0 where
  pub table : TableId
  pub lists : ClaimView
  pub shared : X

abbrev pub owner_view : {X : Type 0} → X → ℕ → OwnerView X
owner_view a k = record { lists = new_view; shared = a; stage = k }

abbrev pub with_lists : {X : Type 0} → ClaimView → OwnerView X → OwnerView X
with_lists l v = record { lists = l; shared = v.shared; stage = v.stage }

abbrev pub lists_of : {X : Type 0} → OwnerView X → ClaimView
lists_of v = v.lists

-- ---- The rule

-- during setup the table has one seat
abbrev pub Setup : {X : Type 0} → X → ℕ → State (Option X) (OwnerView X) → Type 0
Setup a k s = (s.words ≡ 0 ∷ 0 ∷ []) × (s.views ≡ owner_view a k ∷ [])

-- There are two owners, and the rule of claims holds. No owner claims both words. While word 1 is 0, what is shared is
-- in the slot.
pub record IsShared {X : Type 0} (a : X) (s : State (Option X) (OwnerView X)) : Type 0 where
  pub kept : IsKept 2 s.words (map lists_of s.views)
  pub pair : length s.views ≡ 2
  pub each : (seat : ℕ) (v : OwnerView X) → get_elem? s.views seat ≡ some v
      → (v.stage ≡ 3) × (v.shared ≡ a) × (times 0 v.lists.claimed + times 1 v.lists.claimed ≤ 1)
  pub home : slice_index s.words 1 ≡ 0 → s.homes ≡ some (Some a) ∷ []

-- the slot is empty; the seat has taken it; what is shared is in it; there are two owners
abbrev pub Shares : {X : Type 0} → X → State (Option X) (OwnerView X) → Type 0
Shares a s =
    ((Setup a 0 s × (s.homes ≡ some None ∷ [])) ⊎ (Setup a 1 s × (s.homes ≡ none ∷ [])))
    ⊎ ((Setup a 2 s × (s.homes ≡ some (Some a) ∷ [])) ⊎ IsShared a s)

-- ---- The steps

abbrev pub Took : {X : Type 0} → Step (Option X) → Me (Option X) (OwnerView X) → ℕ → Me (Option X) (OwnerView X) → Type 0
Took s me found now = now ≡ (owner_view me.0.shared 1, (0, None) ∷ [])

abbrev pub Gave : {X : Type 0} → Step (Option X) → Me (Option X) (OwnerView X) → ℕ → Me (Option X) (OwnerView X) → Type 0
Gave s me found now = now ≡ (owner_view me.0.shared 2, [])

-- an owner's lists become those after a step of the claims
abbrev pub FirstSwapped : {X : Type 0} → Step (Option X) → Me (Option X) (OwnerView X) → ℕ → Me (Option X) (OwnerView X) → Type 0
FirstSwapped s me found now =
    (now.1 ≡ me.1)
    × (((found ≡ 0) × (now.0 ≡ with_lists (with_claimed s.word me.0.lists) me.0) × (times s.word me.0.lists.taken ≡ 0))
    ⊎ ((found ≡ 1) × (now.0 ≡ with_lists (with_taken s.word me.0.lists) me.0)))

abbrev pub Looked : {X : Type 0} → Step (Option X) → Me (Option X) (OwnerView X) → ℕ → Me (Option X) (OwnerView X) → Type 0
Looked s me found now =
    (now.1 ≡ me.1)
    × (((found ≡ 0) × (now.0 ≡ with_lists (with_free s.word me.0.lists) me.0) × (times s.word me.0.lists.taken ≡ 0))
    ⊎ ((found ≡ 1) × (now.0 ≡ with_lists (with_taken s.word me.0.lists) me.0)))

-- the second word was free, and the owner that claims it takes the slot
abbrev pub SecondSwapped : {X : Type 0} → Step (Option X) → Me (Option X) (OwnerView X) → ℕ → Me (Option X) (OwnerView X) → Type 0
SecondSwapped s me found now = (found ≡ 0) × (now ≡ (with_lists (with_claimed s.word me.0.lists) me.0, (0, Some me.0.shared) ∷ []))

-- ---- What the rule comes to

-- At most one owner claims a word, and none claims both. An owner that hasn't given up finds word 0 taken exactly if
-- the other has given up; then word 1 is free, and what is shared is in the slot.
pub record FreedOnce {X : Type 0} (a : X) (s : State (Option X) (OwnerView X)) : Type 0 where
  pub one : ClaimedOnce (map lists_of s.views)
  pub apart : (i : ℕ) (v : OwnerView X) → get_elem? s.views i ≡ some v → times 0 v.lists.claimed + times 1 v.lists.claimed ≤ 1
  pub later : (i j : ℕ) (v u : OwnerView X) → get_elem? s.views i ≡ some v → get_elem? s.views j ≡ some u → i ≢ j → v.lists.claimed ≡ []
      → (slice_index s.words 0 ≡ 1) ↔ (0 < times 0 u.lists.claimed)
  pub there : (i : ℕ) (v : OwnerView X) → get_elem? s.views i ≡ some v → v.lists.claimed ≡ [] → slice_index s.words 0 ≡ 1
      → (slice_index s.words 1 ≡ 0) × (s.homes ≡ some (Some a) ∷ [])
