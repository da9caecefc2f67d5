-- Claims on words: what a seat knows, and the rule that ties it to the words.
use Rattle.std.specs.Prelude.{◌≡◌, ℕ, ◌+◌, ◌<◌, ◌≤◌, List, [], ◌∷◌, ◌++◌, length, slice_index, slice_set, ◌==◌, ◌||◌, Bool, false, if◌then◌else◌, ◌⊎◌}
use mathlib.Core.Option.{some}
use lib.ListN.{get_elem?}
use Rattle.atomic_table.specs.Table.{State, Me, Step}
use Rattle.atomic_table.specs.Seated.{TableId}
use Rattle.arena_pool.specs.declared.claims.rule.ClaimView.{ClaimView}

-- ---- What a seat knows

abbrev pub new_view : ClaimView
new_view = record { claimed = []; taken = []; free = [] }

abbrev pub with_claimed : ℕ → ClaimView → ClaimView
with_claimed w v = record v { claimed = v.claimed ++ w ∷ [] }

abbrev pub with_taken : ℕ → ClaimView → ClaimView
with_taken w v = record v { taken = v.taken ++ w ∷ [] }

abbrev pub with_free : ℕ → ClaimView → ClaimView
with_free w v = record v { free = v.free ++ w ∷ [] }

abbrev pub joined : ClaimView → ClaimView → ClaimView
joined v u = record { claimed = v.claimed ++ u.claimed; taken = v.taken ++ u.taken; free = v.free ++ u.free }

-- how often w occurs in the list
abbrev pub times : ℕ → List ℕ → ℕ
times w [] = 0
times w (x ∷ xs) = (if x == w then 1 else 0) + times w xs

-- the seat claimed the word, or found it taken
abbrev pub Knows : ℕ → ClaimView → Type 0
Knows w v = 0 < times w v.claimed + times w v.taken

-- the seat claimed no word twice
abbrev pub IsOnce : ClaimView → Type 0
IsOnce v = (w : ℕ) → times w v.claimed ≤ 1

-- what contracts see of a seat: its table, and what it knows
pub record Sitting : Type 0 where
  pub table : TableId
  pub view : ClaimView

-- ---- The rule

-- how often w occurs in all lists of claimed words together
abbrev pub claims_of : ℕ → List ClaimView → ℕ
claims_of w [] = 0
claims_of w (v ∷ vs) = times w v.claimed + claims_of w vs

-- There are n words. Each is the number of claims on it, and at most 1. Each that some seat found taken is 1.
pub record IsKept (n : ℕ) (words : List ℕ) (views : List ClaimView) : Type 0 where
  pub size : length words ≡ n
  pub counted : (w : ℕ) → slice_index words w ≡ claims_of w views
  pub bits : (w : ℕ) → slice_index words w ≤ 1
  pub taken : (seat : ℕ) (v : ClaimView) → get_elem? views seat ≡ some v → (w : ℕ) → 0 < times w v.taken → slice_index words w ≡ 1

abbrev pub Kept : {S : Type 0} → ℕ → State S ClaimView → Type 0
Kept n s = IsKept n s.words s.views

-- ---- The steps

-- A swap found 0, of a word that the seat didn't know as taken, and the seat claims it; or it found 1, and the seat
-- finds it taken. Each step says that the seat claimed no word twice.
abbrev pub Swapped : {S : Type 0} → Step S → Me S ClaimView → ℕ → Me S ClaimView → Type 0
Swapped s me found now =
    (now.1 ≡ me.1)
    × (((found ≡ 0) × (now.0 ≡ with_claimed s.word me.0) × (times s.word me.0.claimed + times s.word me.0.taken ≡ 0))
    ⊎ ((found ≡ 1) × (now.0 ≡ with_taken s.word me.0)))
    × IsOnce now.0

-- A load found 0, of a word that the seat didn't know as taken, and the seat finds it free; or it found 1, and the seat finds it taken.
abbrev pub Loaded : {S : Type 0} → Step S → Me S ClaimView → ℕ → Me S ClaimView → Type 0
Loaded s me found now =
    (now.1 ≡ me.1)
    × (((found ≡ 0) × (now.0 ≡ with_free s.word me.0) × (times s.word me.0.claimed + times s.word me.0.taken ≡ 0))
    ⊎ ((found ≡ 1) × (now.0 ≡ with_taken s.word me.0)))
    × IsOnce now.0

-- ---- What the rule comes to

abbrev pub has : ℕ → List ℕ → Bool
has w [] = false
has w (x ∷ xs) = (x == w) || has w xs

-- how many views have w among their claimed words
abbrev pub claimers : ℕ → List ClaimView → ℕ
claimers w [] = 0
claimers w (v ∷ vs) = (if has w v.claimed then 1 else 0) + claimers w vs

-- two views that claim one word are one view
abbrev pub ClaimedOnce : List ClaimView → Type 0
ClaimedOnce views = (w i j : ℕ) (u v : ClaimView) → get_elem? views i ≡ some u → get_elem? views j ≡ some v
    → 0 < times w u.claimed → 0 < times w v.claimed → i ≡ j

-- swaps to 1 one after another, each of a word, with what it found there
abbrev pub Happen : List ℕ → List (ℕ × ℕ) → Type 0
Happen words [] = Unit {0}
Happen words (s ∷ later) = (s.1 ≡ slice_index words s.0) × Happen (slice_set words s.0 1) later
