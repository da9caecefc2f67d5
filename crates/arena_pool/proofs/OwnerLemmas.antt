-- Each step keeps the rule of two owners.
use Rattle.std.proofs.Common.{◌≡◌, ◌≢◌, ℕ, zero, suc, ◌+◌, ◌<◌, ◌≤◌, ◌⊎◌, List, [], ◌∷◌, map, length, get_or, set, sym, refl, ◌∙◌, inl, inr, ⊎_elim, get_or-set_same, get_or-set_other, Option, Some, None, arith}
use Rattle.std.proofs.Math.ListN.{length-set}
use Rattle.std.proofs.lemmas.List.{map-set}
use mathlib.Core.Option.{Option as Home, some, none}
use lib.ListN.{get_elem?}
use Rattle.atomic_table.specs.Table.{State, Me, step, keeps, takes, gives, Allows, Splits}
use Rattle.atomic_table.proofs.Lists.{at_set, at_map}
use Rattle.arena_pool.specs.declared.claims.rule.ClaimView.{ClaimView}
use Rattle.arena_pool.specs.Claiming.{times, claims_of, IsKept, Kept, with_claimed, with_taken, with_free}
use Rattle.arena_pool.proofs.ClaimLemmas.{Finds, swaps, loads, one_claims}
use Rattle.arena_pool.specs.declared.owners.rule.OwnerView.{OwnerView}
use Rattle.arena_pool.specs.Sharing.{owner_view, with_lists, lists_of, Setup, IsShared, Shares, Took, Gave, FirstSwapped, SecondSwapped, Looked, FreedOnce}

module _ {X : Type 0} where
  -- the one slot during setup
  abbrev slot : X → ℕ → List (Home (Option X))
  slot a zero = some None ∷ []
  slot a (suc zero) = none ∷ []
  slot a (suc (suc k)) = some (Some a) ∷ []

  -- during setup the seat has its one view
  setup : (a : X) (k : ℕ) (s : State (Option X) (OwnerView X)) (id : ℕ) → Shares a s → get_elem? s.views id ≡ some (owner_view a k)
      → k < 3 → (id ≡ 0) × Setup a k s × (s.homes ≡ slot a k)
  setup a k s id holds at few = grind (arith, holds, λ (sh : IsShared a s). (sh.each id (owner_view a k) at).0)

  -- an owner's state is shared
  shared : (a : X) (s : State (Option X) (OwnerView X)) (id : ℕ) (v : OwnerView X) → Shares a s → get_elem? s.views id ≡ some v
      → v.stage ≡ 3 → IsShared a s
  shared a s id v holds at stage = grind (arith, holds)

  -- the claims of two views
  sum : (w : ℕ) (views : List (OwnerView X)) (i j : ℕ) (v u : OwnerView X) → length views ≡ 2 → get_elem? views i ≡ some v
      → get_elem? views j ≡ some u → i ≢ j
      → claims_of w (map lists_of views) ≡ times w v.lists.claimed + times w u.lists.claimed
  sum w (x ∷ y ∷ []) i j v u len at there apart = grind arith
  sum w views i j v u len at there apart = absurd (grind arith)

  -- an owner that claims nothing leaves one claim to the other
  apart : (views : List (OwnerView X)) (i : ℕ) (v : OwnerView X) → length views ≡ 2 → get_elem? views i ≡ some v → v.lists.claimed ≡ []
      → ((j : ℕ) (u : OwnerView X) → get_elem? views j ≡ some u → times 0 u.lists.claimed + times 1 u.lists.claimed ≤ 1)
      → claims_of 0 (map lists_of views) + claims_of 1 (map lists_of views) ≤ 1
  apart (x ∷ y ∷ []) i v len at claimed few = grind (arith, few 0 x refl, few 1 y refl)
  apart views i v len at claimed few = absurd (grind arith)

  -- an owner that claims nothing and finds word 0 taken finds word 1 free, and what is shared in the slot
  pub there : (a : X) (s : State (Option X) (OwnerView X)) (i : ℕ) (v : OwnerView X) → IsShared a s → get_elem? s.views i ≡ some v
      → v.lists.claimed ≡ [] → get_or s.words 0 0 ≡ 1
      → (get_or s.words 1 0 ≡ 0) × (s.homes ≡ some (Some a) ∷ [])
  there a s i v sh at claimed one = let few = apart s.views i v sh.pair at claimed (λ j u to. (sh.each j u to).2) in
      grind (arith, few, sh.kept.counted 0, sh.kept.counted 1, sh.home)

  -- the seat takes the empty slot, if its view is at that stage
  pub takes_slot : (a : X) (slots id : ℕ) (me : Me (Option X) (OwnerView X)) → me ≡ (owner_view a 0, [])
      → Allows (Shares a) slots id me 0 (λ n. n) (Took (step slots 0 0 0 none) me)
  takes_slot a slots id me is = rw is (λ s holds homes at fits.
      let h = setup a 0 s id holds at (omega arith) in (owner_view a 1, takes 0 None, cc, inl (inr ((cc, cc), cc)), refl))

  -- the seat gives the full slot, if its view is at that stage
  pub gives_slot : (a : X) (slots id : ℕ) (me : Me (Option X) (OwnerView X)) → me ≡ (owner_view a 1, (0, Some a) ∷ [])
      → Allows (Shares a) slots id me 0 (λ n. n) (Gave (step slots 0 0 0 none) me)
  gives_slot a slots id me is = rw is (λ s holds homes at fits.
      let h = setup a 1 s id holds at (omega arith) in (owner_view a 2, gives, tt, inr (inl ((cc, cc), cc)), refl))

  -- the one seat becomes two owners, if its view is at that stage
  pub parts : (a : X) (id : ℕ) (v : OwnerView X) → v ≡ owner_view a 2
      → Splits (Shares a) id v (owner_view v.shared 3) (owner_view v.shared 3)
  parts a id v is = rw is (λ s holds at.
      let h = setup a 2 s id holds at (omega arith) in inr (inr (grind (arith, h))))

  -- the claims of an owner keep the rule if its view does
  stays : (a : X) (s : State (Option X) (OwnerView X)) (id : ℕ) (v : OwnerView X) (l : ClaimView) (ws : List ℕ)
      (hs : List (Home (Option X))) → IsShared a s → get_elem? s.views id ≡ some v
      → IsKept 2 ws (set (map lists_of s.views) id l)
      → times 0 l.claimed + times 1 l.claimed ≤ 1
      → (get_or ws 1 0 ≡ 0 → hs ≡ some (Some a) ∷ [])
      → IsShared a (record { words = ws; homes = hs; views = set s.views id (with_lists l v) })
  stays a s id v l ws hs sh at kept few home = record {
    kept = rw map-set kept;
    pair = simp length-set sh.pair;
    each = λ seat x found. grind (arith, at_set s.views id seat (with_lists l v) x found, sh.each id v at, sh.each seat x);
    home = home;
  }

  -- an owner's step on word 0
  plays_first : (a : X) (slots id : ℕ) (me : Me (Option X) (OwnerView X)) (f : ℕ → ℕ) (free : ClaimView) → me.0.stage ≡ 3
      → me.0.lists.claimed ≡ [] → times 0 free.claimed + times 1 free.claimed ≤ 1
      → Allows {S = Option X} (Kept 2) 0 id (me.0.lists, []) 0 f (Finds 0 free (me.0.lists, []))
      → Allows (Shares a) slots id me 0 f (λ found now. (now.1 ≡ me.1)
      × (((found ≡ 0) × (now.0 ≡ with_lists free me.0) × (times 0 me.0.lists.taken ≡ 0))
      ⊎ ((found ≡ 1) × (now.0 ≡ with_lists (with_taken 0 me.0.lists) me.0))))
  plays_first a slots id me f free stage claimed few plays s holds homes at fits =
      let sh = shared a s id me.0 holds at stage in
      let at_list = at_map lists_of s.views id me.0 at in
      let r = plays (record { words = s.words; homes = []; views = map lists_of s.views }) sh.kept refl at_list fits in
      let after = stays a s id me.0 r.0 _ _ sh at r.3 (grind (arith, r.4.1, few, claimed))
      (λ z. sh.home (sym (get_or-set_other s.words 0 1 _ 0 (λ e. omega arith)) ∙ z)) in
      (with_lists r.0 me.0, keeps, tt, inr (inr after), (refl, grind (arith, r.4.1)))

  -- an owner swaps word 0
  pub firsts : (a : X) (slots id : ℕ) (me : Me (Option X) (OwnerView X)) → me.0.stage ≡ 3 → me.0.lists.claimed ≡ []
      → Allows (Shares a) slots id me 0 (λ _. 1) (FirstSwapped (step slots 0 1 0 none) me)
  firsts a slots id me stage claimed = plays_first a slots id me (λ _. 1) (with_claimed 0 me.0.lists) stage claimed (grind (arith, claimed))
      (swaps 2 0 id (me.0.lists, []) 0 (omega arith))

  -- an owner loads word 0
  pub looks : (a : X) (slots id : ℕ) (me : Me (Option X) (OwnerView X)) → me.0.stage ≡ 3 → me.0.lists.claimed ≡ []
      → Allows (Shares a) slots id me 0 (λ n. n) (Looked (step slots 0 0 0 none) me)
  looks a slots id me stage claimed = plays_first a slots id me (λ n. n) (with_free 0 me.0.lists) stage claimed (grind (arith, claimed))
      (loads 2 0 id (me.0.lists, []) 0 (omega arith))

  -- an owner that found word 0 taken swaps word 1, which is free, and takes the slot
  pub seconds : (a : X) (slots id : ℕ) (me : Me (Option X) (OwnerView X)) → me.0.stage ≡ 3 → me.0.lists.claimed ≡ []
      → 0 < times 0 me.0.lists.taken → me.1 ≡ [] → Allows (Shares a) slots id me 1 (λ _. 1) (SecondSwapped (step slots 1 1 0 none) me)
  seconds a slots id me stage claimed taken none_held s holds homes at fits =
      let sh = shared a s id me.0 holds at stage in
      let at_list = at_map lists_of s.views id me.0 at in
      let free = there a s id me.0 sh at claimed (sh.kept.taken id me.0.lists at_list 0 taken) in
      let r = swaps {S = Option X} 2 0 id (me.0.lists, []) 1 (omega arith)
      (record { words = s.words; homes = []; views = map lists_of s.views }) sh.kept refl at_list fits in
      let is : r.0 ≡ with_claimed 1 me.0.lists = ⊎_elim (λ h. h.1) (λ h. absurd (omega (arith, h.0, free.0))) r.4.1 in
      let gone : get_or (set s.words 1 1) 1 0 ≡ 1 = get_or-set_same s.words 1 1 0 (omega (arith, sh.kept.size)) in
      let after = stays a s id me.0 r.0 _ (set s.homes 0 none) sh at r.3 (grind (arith, is, claimed))
      (λ z. absurd (omega (arith, gone, z))) in
      (with_lists r.0 me.0, takes 0 (Some a), cc, inr (inr (after)), (free.0, cc (is, (sh.each id me.0 at).1, none_held)))

  -- what the rule comes to
  pub once : (a : X) (s : State (Option X) (OwnerView X)) → IsShared a s → FreedOnce a s
  once a s sh = record {
    one = one_claims 2 s.words (map lists_of s.views) sh.kept;
    apart = λ i v at. (sh.each i v at).2;
    later = λ i j v u at to apart claimed.
        grind (arith, claimed, sh.kept.counted 0, sh.kept.bits 0, sum 0 s.views i j v u sh.pair at to apart);
    there = λ i v. there a s i v sh;
  }

  -- the state has one view during setup, and is shared once there are two
  pub two_share : (a : X) (s : State (Option X) (OwnerView X)) → Shares a s → length s.views ≡ 2 → IsShared a s
  two_share a s holds pair = grind (arith, holds)
