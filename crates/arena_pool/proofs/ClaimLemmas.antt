-- Each step keeps the rule of the claims.
use Rattle.std.proofs.Common.{◌≡◌, ℕ, suc, ◌+◌, ◌*◌, ◌<◌, ◌≤◌, ◌⊎◌, min, List, [], ◌∷◌, ◌++◌, map, take, length, get_or, set, sym, refl, ◌∙◌, inl, inr, ⊎_elim, if◌then◌else◌, arith}
use Rattle.std.proofs.lemmas.Bool.{cases_eq}
use Rattle.std.proofs.lemmas.Bool.Decides.{nat_tests}
use Rattle.std.proofs.Math.ListN.{length-set}
use Rattle.std.proofs.Common.{get_or-set_other}
use Rattle.std.proofs.lemmas.Grind.{get_or-set_at}
use mathlib.Core.Option.{some, none}
use lib.ListN.{get_elem?}
use Rattle.atomic_table.specs.Table.{Me, step, keeps, Allows, Splits, Joins}
use Rattle.atomic_table.proofs.Lists.{at_set, at_snoc, set_again, set_else}
use Rattle.arena_pool.specs.declared.claims.rule.ClaimView.{ClaimView}
use Rattle.arena_pool.specs.Claiming.{times, claims_of, new_view, with_claimed, with_taken, with_free, joined, IsKept, Kept, Swapped, Loaded, Knows, IsOnce, ClaimedOnce, has, claimers, Happen}

-- how often a word occurs in two lists
pub times-append : (w : ℕ) (xs ys : List ℕ) → times w (xs ++ ys) ≡ times w xs + times w ys
times-append w [] ys = omega arith
times-append w (x ∷ xs) ys = omega (arith, times-append w xs ys)

-- a word occurs once in the list of itself alone
pub times-same : (w : ℕ) → times w (w ∷ []) ≡ 1
times-same w = grind (arith, nat_tests)

-- a word that was just claimed or found taken is known
pub knows_claimed : (w : ℕ) (v : ClaimView) → Knows w (with_claimed w v)
knows_claimed w v = omega (arith, times-append, times-same w)

-- a word that was just found taken is among the taken ones
pub is_taken : (w : ℕ) (v : ClaimView) → 0 < times w (with_taken w v).taken
is_taken w v = omega (arith, times-append, times-same w)

-- and so is known
pub knows_taken : (w : ℕ) (v : ClaimView) → Knows w (with_taken w v)
knows_taken w v = omega (arith, is_taken w v)

-- a word is in a list if it occurs there
has-times : (w : ℕ) (xs : List ℕ) → (if has w xs then 1 else 0) ≡ min 1 (times w xs)
has-times w [] = refl
has-times w (x ∷ xs) = let ih : (if has w xs then 1 else 0) ≡ min 1 (times w xs) = has-times w xs in grind (arith, nat_tests, ih)

-- if there is at most one claim, there are as many views as claims
claimers-is : (w : ℕ) (views : List ClaimView) → claims_of w views ≤ 1 → claims_of w views ≡ claimers w views
claimers-is w [] few = refl
claimers-is w (v ∷ vs) few = omega (arith, has-times w v.claimed, claimers-is w vs (omega arith))

-- the claims after a view changes
claims-set : (w : ℕ) (views : List ClaimView) (id : ℕ) (v u : ClaimView) → get_elem? views id ≡ some v
    → claims_of w (set views id u) + times w v.claimed ≡ claims_of w views + times w u.claimed
claims-set w (x ∷ xs) (suc id) v u at = omega (arith, claims-set w xs id v u at)
claims-set w views id v u at = grind arith

-- the claims after a view is added
claims-snoc : (w : ℕ) (views : List ClaimView) (v : ClaimView) → claims_of w (views ++ v ∷ []) ≡ claims_of w views + times w v.claimed
claims-snoc w [] v = omega arith
claims-snoc w (x ∷ xs) v = omega (arith, claims-snoc w xs v)

-- the words after a write
ruleset written = (nat_tests, get_or-set_at, get_or-set_other)

module _ (n : ℕ) (words : List ℕ) (views : List ClaimView) (kept : IsKept n words views) where
  -- a view has no more claims than all, each of them one at most
  pub once_each : (i : ℕ) (u : ClaimView) → get_elem? views i ≡ some u → IsOnce u
  once_each i u at w = omega (arith, kept.counted w, kept.bits w, claims-set w views i u new_view at)

  -- two views that claim a word are one
  pub one_claims : ClaimedOnce views
  one_claims w i j u v at there claims_u claims_v =
      let first = claims-set w views i u new_view at in let second = claims-set w (set views i new_view) j v new_view in
      grind (arith, kept.counted w, kept.bits w, first, second, set_else views i j new_view)

  -- a word is the number of views that claim it
  pub counts_views : (w : ℕ) → get_or words w 0 ≡ claimers w views
  counts_views w = kept.counted w ∙ claimers-is w views (omega (arith, kept.counted w, kept.bits w))

  -- a change of the view v and of the word i that fit keeps the rule
  changed : (id : ℕ) (v u : ClaimView) (i k : ℕ) → get_elem? views id ≡ some v → i < n → get_or words i 0 ≤ k → k ≤ 1
      → ((w : ℕ) → times w u.claimed + get_or words i 0 * times w (i ∷ []) ≡ times w v.claimed + k * times w (i ∷ []))
      → ((w : ℕ) → times w u.taken ≤ times w v.taken + k * times w (i ∷ []))
      → IsKept n (set words i k) (set views id u) × IsOnce u
  changed id v u i k at here grows bit claims taken =
      let now : IsKept n (set words i k) (set views id u) = record {
        size = simp length-set kept.size;
        counted = λ w. grind (arith, kept.counted w, claims w, claims-set w views id v u at, cases_eq w i, written);
        bits = λ w. grind (arith, kept.bits w, cases_eq w i, written);
        taken = λ seat x found w some_times. let there = at_set views id seat u x found in
            grind (arith, there, kept.taken seat x, kept.taken id v at w, taken w, kept.bits w, cases_eq w i, written);
      } in
      (now, λ w. omega (arith, now.counted w, now.bits w, claims-set w views id v u at, claims-set w views id v new_view at))

  -- a word that is 0 was not claimed, nor found taken
  unknown : (id : ℕ) (v : ClaimView) (i : ℕ) → get_elem? views id ≡ some v → get_or words i 0 ≡ 0 → times i v.claimed + times i v.taken ≡ 0
  unknown id v i at z = grind (arith, kept.counted i, claims-set i views id v new_view at, kept.taken id v at i)

-- a swap finds 1 if an earlier one was of its word, and otherwise the word's first value
pub happened : (words : List ℕ) (swaps : List (ℕ × ℕ)) → Happen words swaps → (i w found : ℕ) → w < length words
    → get_elem? swaps i ≡ some (w, found)
    → found ≡ (if has w (map (λ (s : ℕ × ℕ). s.0) (take i swaps)) then 1 else get_or words w 0)
happened words (s ∷ later) h (suc i) w found inside at =
    let now = set words s.0 1 in
    let ih : found ≡ (if has w (map (λ (t : ℕ × ℕ). t.0) (take i later)) then 1 else get_or now w 0) =
    happened now later h.1 i w found (omega (arith, length-set {A = ℕ})) at in
    grind (arith, ih, cases_eq w s.0, written)
happened words swaps h i w found inside at = grind arith

module _ {S : Type 0} where
  -- a new view of no claims keeps the rule
  pub splits : (n id : ℕ) (v : ClaimView) → Splits {S = S} (Kept n) id v v new_view
  splits n id v s kept at = rw (set_again s.views id v at) (grind (arith, kept, claims-snoc, at_snoc))

  -- what a step on the word i comes to: the view `free` if it finds 0
  abbrev pub Finds : ℕ → ClaimView → Me S ClaimView → ℕ → Me S ClaimView → Type 0
  Finds i free me found now =
      (now.1 ≡ me.1)
      × (((found ≡ 0) × (now.0 ≡ free) × (times i me.0.claimed + times i me.0.taken ≡ 0))
      ⊎ ((found ≡ 1) × (now.0 ≡ with_taken i me.0)))
      × IsOnce now.0

  -- it keeps the rule if it keeps 1
  plays : (n slots id : ℕ) (me : Me S ClaimView) (i : ℕ) (f : ℕ → ℕ) (free : ClaimView) → i < n → f 0 ≤ 1 → f 1 ≡ 1
      → free.taken ≡ me.0.taken → ((w : ℕ) → times w free.claimed ≡ times w me.0.claimed + f 0 * times w (i ∷ []))
      → Allows (Kept n) slots id me i f (Finds i free me)
  plays n slots id me i f free here bit one taken claimed s kept homes at fits = ⊎_elim
      (λ z.
      let now = changed n s.words s.views kept id me.0 free i _ at here (grind (arith, z)) (grind (arith, z))
      (λ w. grind (arith, z, claimed w)) (λ w. grind (arith, taken)) in
      (free, keeps, tt, now.0, (refl, inl (z, refl, unknown n s.words s.views kept id me.0 i at z), now.1)))
      (λ some_times.
      let o : get_or s.words i 0 ≡ 1 = omega (arith, some_times, kept.bits i) in
      let now = changed n s.words s.views kept id me.0 (with_taken i me.0) i _ at here (grind (arith, o, one)) (grind (arith, o, one))
      (λ w. grind (arith, o, one)) (λ w. grind (arith, o, one, times-append w me.0.taken (i ∷ []))) in
      (with_taken i me.0, keeps, tt, now.0, (refl, inr (o, refl), now.1)))
      (cases_eq (get_or s.words i 0) 0)

  pub swaps : (n slots id : ℕ) (me : Me S ClaimView) (i : ℕ) → i < n
      → Allows (Kept n) slots id me i (λ _. 1) (Swapped (step slots i 1 0 none) me)
  swaps n slots id me i here = plays n slots id me i (λ _. 1) (with_claimed i me.0) here (omega arith) refl refl
      (λ w. omega (arith, times-append w me.0.claimed (i ∷ [])))

  pub loads : (n slots id : ℕ) (me : Me S ClaimView) (i : ℕ) → i < n
      → Allows (Kept n) slots id me i (λ k. k) (Loaded (step slots i 0 0 none) me)
  loads n slots id me i here = plays n slots id me i (λ k. k) (with_free i me.0) here (omega arith) refl refl (λ w. omega arith)

  -- and a view that takes in another
  pub joins : (n id : ℕ) (v : ClaimView) (other : ℕ) (u : ClaimView) → Joins {S = S} (Kept n) id v other u (joined v u) new_view
  joins n id v other u s kept at apart there =
      let views = set s.views id (joined v u) in
      let at_other = set_else s.views id other (joined v u) apart in
      record {
        size = kept.size;
        counted = λ w. let first = claims-set w s.views id v (joined v u) at in
            omega (arith, kept.counted w, first, claims-set w views other u new_view there, times-append);
        bits = kept.bits;
        taken = λ seat x found w some_times. let last = at_set views other seat new_view x found in
            let first = at_set s.views id seat (joined v u) x in
            grind (arith, last, first, times-append, kept.taken other u (sym at_other ∙ there) w, kept.taken id v at w, kept.taken seat x);
      }
