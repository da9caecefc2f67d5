-- Maps of lists of pairs that are equal.
use Rattle.std.proofs.lemmas.Bool.Decides.{nat_tests}
use Rattle.std.proofs.Common.{◌≡◌, ℕ, ◌≤◌, inl, inr, List, [], ◌∷◌, map, length, refl, sym, ap, subst, ◌∙◌, arith, Some, Option, Bool, true, false, true≢false, suc, zero, ◌++◌, append_assoc, ◌⊎◌}
use Rattle.std.proofs.lemmas.Bool.{both_ways, cases_Bool, or_parts, or_cases}
use Rattle.std.proofs.lemmas.Cmp.{nat_list_eq_equiv}
use Rattle.std.proofs.lemmas.List.{length-map}
use Rattle.std.proofs.lemmas.Map.Made.{length-le_from_is_member}
use Rattle.std.proofs.lemmas.Map.Keys.{IsDistinct-cons}
use Rattle.std.proofs.lemmas.Option.{none-some, same_Some}
use Rattle.std.proofs.lemmas.Slice.Eq.{bytes_eq-Decides}
use Rattle.std.specs.List.{AllByRecursion, IsDistinct}
use Rattle.std.specs.Prelude.{slice_get, bytes_eq, is_some}
use Rattle.std.specs.Set.{is_member}
use Rattle.hash_ring.specs.Finite.{Finite, AreOnce, first_of, has, value_of}
use Rattle.hash_ring.specs.Walks.{AreBoth, AreEqual}
use Rattle.hash_ring.proofs.Under.{option-cases, under-in, in-under}

none-member : (ks : List (List ℕ)) (q : List ℕ) → is_member bytes_eq ks q ≡ false → AllByRecursion (λ y. bytes_eq q y ≡ false) ks
none-member [] q e = tt
none-member (k ∷ ks) q e = let r = or_parts (bytes_eq q k) (is_member bytes_eq ks q) e in (r.0, none-member ks q r.1)

-- if values are equal or both missing, both options are some or both are none
pub both-has : {K V : Type 0} (eq : V → V → Bool) (one other : Option (K × V)) → AreBoth eq (value_of one) (value_of other)
    → is_some one ≡ is_some other
both-has eq one other b = grind (arith, nat_tests)

-- The same of pairs, if the second has what the first has.
both-from : {K V : Type 0} (eq : V → V → Bool) (one other : Option (K × V))
    → ((p : K × V) → one ≡ Some p → AreBoth eq (Some p.1) (value_of other)) → (is_some other ≡ true → is_some one ≡ true)
    → AreBoth eq (value_of one) (value_of other)
both-from eq one other each only = grind (arith, nat_tests, true≢false)

module _ {K V : Type 0} (content : K → List ℕ) where
  -- a content is in the list if the map has it
  has-member : (pairs : List (K × V)) (q : List ℕ) → is_member bytes_eq (map (λ p. content p.0) pairs) q ≡ has (first_of content pairs) q
  has-member [] q = refl
  has-member (p ∷ ps) q = elim (cases_Bool (bytes_eq (content p.0) q)) [
    | inl t ↦ rw (nat_list_eq_equiv.symm q (content p.0), t) refl
    | inr t ↦ rw (nat_list_eq_equiv.symm q (content p.0), t) (has-member ps q)
  ]

  -- a list that has some contents, none of them twice, is at least as long as they are
  few : (qs : List (List ℕ)) (pairs : List (K × V)) → IsDistinct bytes_eq qs
      → ((q : List ℕ) → is_member bytes_eq qs q ≡ true → has (first_of content pairs) q ≡ true) → length qs ≤ length pairs
  few qs pairs once within =
      let most = length-le_from_is_member nat_list_eq_equiv qs (map (λ p. content p.0) pairs) once
      (λ q e. has-member pairs q ∙ within q e) in
      omega (arith, most, length-map pairs (λ p. content p.0))

-- A list with no content twice, all of whose contents another list has, is at most as long, whatever gives the contents
-- of each.
few-contents : {K V : Type 0} (one other : K → List ℕ) (xs ys : List (K × V)) → AreOnce one xs
    → ((q : List ℕ) → has (first_of one xs) q ≡ true → has (first_of other ys) q ≡ true) → length xs ≤ length ys
few-contents one other xs ys once within =
    omega (arith, few other (map (λ p. one p.0) xs) ys once (λ q e. within q (sym (has-member one xs q) ∙ e)), length-map xs (λ p. one p.0))

-- Lists that have the same contents, each once, are as long.
pub same-length : {K V : Type 0} (one other : K → List ℕ) (xs ys : List (K × V)) → AreOnce one xs → AreOnce other ys
    → ((q : List ℕ) → has (first_of one xs) q ≡ has (first_of other ys) q) → length xs ≡ length ys
same-length one other xs ys once once' same =
    let most = few-contents one other xs ys once (λ q e. sym (same q) ∙ e) in
    let least = few-contents other one ys xs once' (λ q e. same q ∙ e) in
    omega arith

module _ {K V : Type 0} (content : K → List ℕ) where
  -- if they are as many, the other list has no more
  no-more-pairs : (xs ys : List (K × V)) → AreOnce content xs → length ys ≤ length xs
      → ((q : List ℕ) → has (first_of content xs) q ≡ true → has (first_of content ys) q ≡ true)
      → (q : List ℕ) → has (first_of content ys) q ≡ true → has (first_of content xs) q ≡ true
  no-more-pairs xs ys once most within q e = elim (cases_Bool (has (first_of content xs) q)) [
    | inl t ↦ t
    | inr t ↦
        let qs : List (List ℕ) = map (λ p. content p.0) xs in
        let more = few content (q ∷ qs) ys (IsDistinct-cons bytes_eq q qs (none-member qs q (has-member content xs q ∙ t)) once)
        (λ r m. elim (or_cases (bytes_eq r q) (is_member bytes_eq qs r) m) [
          | inl s ↦ ap (has (first_of content ys)) ((bytes_eq-Decides r q).0 s) ∙ e
          | inr s ↦ within r (sym (has-member content xs r) ∙ s)
        ]) in
        absurd (omega (arith, more, most, length-map xs (λ p. content p.0)))
  ]

  -- Maps with as many pairs are equal if each pair of one list has its content in the other, with an equal value.
  pub equal-found : (eq : V → V → Bool) (xs ys : List (K × V)) → AreOnce content xs → length ys ≤ length xs
      → ((i : ℕ) (p : K × V) → slice_get xs i ≡ Some p → AreBoth eq (Some p.1) (value_of (first_of content ys (content p.0))))
      → AreEqual {K = K} eq (first_of content xs) (first_of content ys)
  equal-found eq xs ys once few found q = both-from eq _ _ (there q) (no-more-pairs xs ys once few within q)
    where
      there : (q : List ℕ) (p : K × V) → first_of content xs q ≡ Some p → AreBoth eq (Some p.1) (value_of (first_of content ys q))
      there q p e =
          let i = under-in content xs q p e in
          subst (λ r. AreBoth eq (Some p.1) (value_of (first_of content ys r))) i.2 (found i.0 p i.1)

      within : (q : List ℕ) → has (first_of content xs) q ≡ true → has (first_of content ys) q ≡ true
      within q e = elim (option-cases (first_of content xs q)) [
        | inl n ↦ absurd (both_ways (has (first_of content xs) q) (ap is_some n) e)
        | inr r ↦ sym (both-has eq (Some r.0) (first_of content ys q) (there q r.0 r.1))
      ]

-- ---- A search for each pair of a list in another map

-- what a place of a list holds that others were appended to
get-push : {X : Type 0} (xs : List X) (x : X) (i : ℕ) (y : X) → slice_get (xs ++ x ∷ []) i ≡ Some y → (slice_get xs i ≡ Some y) ⊎ (y ≡ x)
get-push [] x zero y s = inr (sym (same_Some x y s))
get-push [] x (suc i) y s = absurd (none-some y s)
get-push (z ∷ xs) x zero y s = inl s
get-push (z ∷ xs) x (suc i) y s = get-push xs x i y s

get-behind : {X : Type 0} (xs : List X) (x : X) (ys : List X) → slice_get (xs ++ x ∷ ys) (length xs) ≡ Some x
get-behind [] x ys = refl
get-behind (z ∷ xs) x ys = get-behind xs x ys

module _ {K V : Type 0} (content : K → List ℕ) (eq : V → V → Bool) (m : Finite K V) (xs : List (K × V)) where
  -- these pairs of the list have equal values in the map, and those are left
  pub record AreFound (done rest : List (K × V)) : Type 0 where
    pub whole : xs ≡ done ++ rest
    pub found : (i : ℕ) (p : K × V) → slice_get done i ≡ Some p → AreBoth eq (Some p.1) (value_of (m (content p.0)))

  pub found-none : AreFound [] xs
  found-none = record { whole = refl; found = λ i p s. absurd (none-some p s) }

  -- the next one is in the list
  pub found-next : (done rest : List (K × V)) (p : K × V) → AreFound done (p ∷ rest) → (i : ℕ) × (slice_get xs i ≡ Some p)
  found-next done rest p f = (length done, ap (λ ps. slice_get ps (length done)) f.whole ∙ get-behind done p rest)

  -- one more
  pub found-more : (done rest : List (K × V)) (p : K × V) → AreFound done (p ∷ rest) → AreBoth eq (Some p.1) (value_of (m (content p.0)))
      → AreFound (done ++ p ∷ []) rest
  found-more done rest p f both = grind (arith, nat_tests, append_assoc, get-push)

  -- in equal maps each is found
  pub found-equal : AreOnce content xs → AreEqual {K = K} eq (first_of content xs) m → (i : ℕ) (p : K × V) → slice_get xs i ≡ Some p
      → AreBoth eq (Some p.1) (value_of (m (content p.0)))
  found-equal once equal i p s = grind (arith, nat_tests, in-under)
