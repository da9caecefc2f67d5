-- Finite maps of lists of pairs, no two of which have the same content.
use Rattle.std.proofs.lemmas.Bool.Decides.{nat_tests}
use Rattle.std.proofs.Common.{arith, ◌≡◌, ℕ, refl, sym, ap, subst, ◌∙◌, List, [], ◌∷◌, ◌++◌, Option, Some, None, false, inl, inr, append_assoc}
use Rattle.std.proofs.Math.Path.{fun_ext}
use Rattle.std.specs.Prelude.{IsPermutation, map, cond, bytes_eq}
use Rattle.std.proofs.lemmas.Option.{none-some, same_Some}
use Rattle.std.proofs.lemmas.Grind.{flat_map-append}
use Rattle.std.proofs.lemmas.List.Sorted.{IsPermutation-refl, IsPermutation-trans, IsPermutation-append_left, IsPermutation-append_right, IsPermutation-append_comm}
use Rattle.std.specs.Option.{option_or}
use Rattle.std.specs.List.{AllByRecursion, IsDistinct, flat_map}
use Rattle.std.proofs.lemmas.Bool.{both_ways, cases_Bool, cond-true, cond-false}
use Rattle.std.proofs.lemmas.List.Folds.{find-append}
use Rattle.std.proofs.lemmas.Slice.Eq.{bytes_eq-Decides}
use Rattle.arena_hash.specs.Finite.{AreOnce, first_of, key_or, with_pair}

-- contents differ in either order
turned : (q c : List ℕ) → bytes_eq q c ≡ false → bytes_eq c q ≡ false
turned q c other = grind (arith, nat_tests, cases_Bool, both_ways, bytes_eq-Decides)

turned_all : (q : List ℕ) (cs : List (List ℕ)) → AllByRecursion (λ (c : List ℕ). bytes_eq q c ≡ false) cs
    → AllByRecursion (λ (c : List ℕ). bytes_eq c q ≡ false) cs
turned_all q [] all = tt
turned_all q (c ∷ cs) all = (turned q c all.0, turned_all q cs all.1)

module _ {K V : Type 0} (content : K → List ℕ) where
  -- none of the pairs has this content
  abbrev pub AreOthers : List ℕ → List (K × V) → Type 0
  AreOthers q ps = AllByRecursion (λ (c : List ℕ). bytes_eq c q ≡ false) (map (λ (p : K × V). content p.0) ps)

  -- so nothing is found there
  pub none_found : (q : List ℕ) (ps : List (K × V)) → AreOthers q ps → first_of content ps q ≡ None
  none_found q [] others = refl
  none_found q (p ∷ ps) others = rw others.0 (none_found q ps others.1)

  -- One more pair whose content is new is found there.
  pub found_more : (ps : List (K × V)) (k : K) (v : V) → AreOthers (content k) ps
      → with_pair (first_of content ps) (content k) k v ≡ first_of content (ps ++ (k, v) ∷ [])
  found_more ps k v others = fun_ext (λ q. elim (cases_Bool (bytes_eq q (content k))) [
    | inl same ↦ (
        let e = (bytes_eq-Decides q (content k)).0 same in
        let none = ap (first_of content ps) e ∙ none_found (content k) ps others in
        let here = (bytes_eq-Decides (content k) q).1 (sym e) in
        cond-true (bytes_eq q (content k)) (Some (key_or (first_of content ps (content k)) k, v)) (first_of content ps q) same
        ∙ ap (λ (o : Option (K × V)). Some (key_or o k, v)) (none_found (content k) ps others)
        ∙ sym (last ps (k, v) q ∙ ap (λ (o : Option (K × V)). option_or o (cond (bytes_eq (content k) q) (Some (k, v)) None)) none
        ∙ cond-true (bytes_eq (content k) q) (Some (k, v)) None here))
    | inr other ↦ (
        let away : bytes_eq (content k) q ≡ false = turned q (content k) other in
        cond-false (bytes_eq q (content k)) (Some (key_or (first_of content ps (content k)) k, v)) (first_of content ps q) other
        ∙ sym (last ps (k, v) q ∙ ap (λ (o : Option (K × V)). option_or (first_of content ps q) o)
        (cond-false (bytes_eq (content k) q) (Some (k, v)) None away) ∙ or_none (first_of content ps q)))
  ])
    where
      last : (ps : List (K × V)) (p : K × V) (q : List ℕ)
          → first_of content (ps ++ p ∷ []) q ≡ option_or (first_of content ps q) (cond (bytes_eq (content p.0) q) (Some p) None)
      last ps p q = find-append (λ (p : K × V). bytes_eq (content p.0) q) ps (p ∷ [])

      or_none : (o : Option (K × V)) → option_or o None ≡ o
      or_none None = refl
      or_none (Some p) = refl

-- if a content is once in a list, those before it are others
pub once_others : (cs ds : List (List ℕ)) (q : List ℕ) → IsDistinct bytes_eq (cs ++ q ∷ ds) → AllByRecursion (λ (c : List ℕ). bytes_eq c
    q ≡ false) cs
unfolding IsDistinct
once_others [] ds q once = tt
once_others (c ∷ cs) ds q once = (before cs once.0, once_others cs ds q once.1)
  where
    before : (cs : List (List ℕ)) → AllByRecursion (λ (d : List ℕ). bytes_eq c d ≡ false) (cs ++ q ∷ ds) → bytes_eq c q ≡ false
    before [] all = all.0
    before (d ∷ cs) all = before cs all.1

-- ---- Lists of the same pairs

module _ {K V : Type 0} (content : K → List ℕ) where
  abbrev contents : List (K × V) → List (List ℕ)
  contents ps = map (λ (p : K × V). content p.0) ps

  -- what is found under a content is in the list
  found_split : (q : List ℕ) (ys : List (K × V)) (x : K × V) → first_of content ys q ≡ Some x
      → (ls rs : List (K × V)) × (ys ≡ ls ++ x ∷ rs)
  found_split q [] x found = absurd (cc found)
  found_split q (y ∷ ys) x found = elim (cases_Bool (bytes_eq (content y.0) q)) [
    | inl here ↦ (let is : y ≡ x = same_Some y x (sym (cond-true (bytes_eq (content y.0) q) (Some y) (first_of content ys q) here) ∙
        found) in
        ([], ys, ap (λ z. z ∷ ys) is))
    | inr there ↦ (
        let rest = found_split q ys x (sym (cond-false (bytes_eq (content y.0) q) (Some y) (first_of content ys q) there) ∙ found) in
        (y ∷ rest.0, rest.1, ap (λ zs. y ∷ zs) rest.2))
  ]

  -- a pair with another content is skipped
  found_without : (q : List ℕ) (ls rs : List (K × V)) (x : K × V) → bytes_eq (content x.0) q ≡ false
      → first_of content (ls ++ x ∷ rs) q ≡ first_of content (ls ++ rs) q
  found_without q [] rs x other = cond-false (bytes_eq (content x.0) q) (Some x) (first_of content rs q) other
  found_without q (l ∷ ls) rs x other = ap (cond (bytes_eq (content l.0) q) (Some l)) (found_without q ls rs x other)

  -- Without a pair, the others are still once, and have other contents.
  once_front : (ls rs : List (K × V)) (x : K × V) → AreOnce content (ls ++ x ∷ rs) → AreOnce content (ls ++ rs)
  unfolding IsDistinct
  once_front [] rs x once = once.1
  once_front (l ∷ ls) rs x once = (without ls once.0, once_front ls rs x once.1)
    where
      without : (ls : List (K × V)) → AllByRecursion (λ (c : List ℕ). bytes_eq (content l.0) c ≡ false) (contents (ls ++ x ∷ rs))
          → AllByRecursion (λ (c : List ℕ). bytes_eq (content l.0) c ≡ false) (contents (ls ++ rs))
      without [] all = all.1
      without (z ∷ zs) all = (all.0, without zs all.1)

  others_without : (ls rs : List (K × V)) (x : K × V) → AreOnce content (ls ++ x ∷ rs) → AreOthers content (content x.0) (ls ++ rs)
  unfolding IsDistinct
  others_without [] rs x once = turned_all (content x.0) (contents rs) once.0
  others_without (l ∷ ls) rs x once = (before ls once.0, others_without ls rs x once.1)
    where
      before : (ls : List (K × V)) → AllByRecursion (λ (c : List ℕ). bytes_eq (content l.0) c ≡ false) (contents (ls ++ x ∷ rs))
          → bytes_eq (content l.0) (content x.0) ≡ false
      before [] all = all.0
      before (z ∷ zs) all = before zs all.1

  rest_same : (xs ls rs : List (K × V)) (x : K × V) → AreOnce content (x ∷ xs) → AreOnce content (ls ++ x ∷ rs)
      → first_of content (x ∷ xs) ≡ first_of content (ls ++ x ∷ rs) → first_of content xs ≡ first_of content (ls ++ rs)
  rest_same xs ls rs x one two same = fun_ext (λ q. elim (cases_Bool (bytes_eq (content x.0) q)) [
    | inl here ↦ (
        let is = (bytes_eq-Decides (content x.0) q).0 here in
        let first = none_found content (content x.0) xs (others_without [] xs x one) in
        let second = none_found content (content x.0) (ls ++ rs) (others_without ls rs x two) in
        ap (first_of content xs) (sym is) ∙ first ∙ sym (ap (first_of content (ls ++ rs)) (sym is) ∙ second))
    | inr other ↦ sym (cond-false (bytes_eq (content x.0) q) (Some x) (first_of content xs q) other)
        ∙ ap (λ (f : List ℕ → Option (K × V)). f q) same ∙ found_without q ls rs x other
  ])

  module _ {B : Type 0} (f : K × V → List B) where
    -- what is made of one among others may be moved to the front
    moved_front : (a l r : List B) → IsPermutation (a ++ (l ++ r)) (l ++ (a ++ r))
    moved_front a l r =
        let swapped = IsPermutation-append_left r (a ++ l) (l ++ a) (IsPermutation-append_comm a l) in
        subst (λ zs. IsPermutation (a ++ (l ++ r)) zs) (append_assoc l a r)
        (subst (λ zs. IsPermutation zs ((l ++ a) ++ r)) (append_assoc a l r) swapped)

    -- Lists with the same map are the same in another order, and so is what is made of them.
    pub pairs_turned : (xs ys : List (K × V)) → AreOnce content xs → AreOnce content ys → first_of content xs ≡ first_of content ys
        → IsPermutation (flat_map f xs) (flat_map f ys)
    pairs_turned [] [] one two same = IsPermutation-refl []
    pairs_turned [] (y ∷ ys) one two same = absurd (none-some y (ap (λ (f : List ℕ → Option (K × V)). f (content y.0)) same
        ∙ cond-true (bytes_eq (content y.0) (content y.0)) (Some y) (first_of content ys (content y.0))
        ((bytes_eq-Decides (content y.0) (content y.0)).1 refl)))
    pairs_turned (x ∷ xs) ys one two same =
        let here = cond-true (bytes_eq (content x.0) (content x.0)) (Some x) (first_of content xs (content x.0))
        ((bytes_eq-Decides (content x.0) (content x.0)).1 refl) in
        let cut = found_split (content x.0) ys x (sym (ap (λ (f : List ℕ → Option (K × V)). f (content x.0)) same) ∙ here) in
        let two' = subst (AreOnce content) cut.2 two in
        let rest = pairs_turned xs (cut.0 ++ cut.1) (once_front [] xs x one) (once_front cut.0 cut.1 x two')
        (rest_same xs cut.0 cut.1 x one two' (same ∙ ap (first_of content) cut.2)) in
        let parts = flat_map-append f cut.0 cut.1 in
        let whole = flat_map-append f cut.0 (x ∷ cut.1) in
        let first = IsPermutation-append_right (f x) (flat_map f xs) (flat_map f cut.0 ++ flat_map f cut.1)
        (subst (IsPermutation (flat_map f xs)) parts rest) in
        let both = IsPermutation-trans (f x ++ flat_map f xs) (f x ++ (flat_map f cut.0 ++ flat_map f cut.1))
        (flat_map f cut.0 ++ (f x ++ flat_map f cut.1)) first (moved_front (f x) (flat_map f cut.0) (flat_map f cut.1)) in
        subst (IsPermutation (f x ++ flat_map f xs)) (sym (ap (flat_map f) cut.2 ∙ whole)) both
