-- The items in slots, by their contents.
use Rattle.std.proofs.Common.{◌≡◌, ℕ, suc, zero, ◌⊎◌, inl, inr, List, [], ◌∷◌, map, refl, sym, ap, subst, ◌∙◌, Some, None, Option, Bool}
use Rattle.std.proofs.Common.{true, set}
use Rattle.std.proofs.Math.Path.{fun_ext}
use Rattle.std.proofs.lemmas.Option.{none-some, same_Some, slice_get-map}
use Rattle.std.proofs.lemmas.Bool.{both_ways, cases_Bool, cond-true, cond-false, cases_eq}
use Rattle.std.proofs.lemmas.Slice.Eq.{bytes_eq-Decides}
use Rattle.std.specs.Prelude.{slice_get, bytes_eq, option_map, if◌then◌else◌}
use Rattle.std.specs.List.{find}
use Rattle.hash_ring.specs.Finite.{AreOnce, first_of, with_pair, without, key_or}
use Rattle.hash_ring.specs.Slots.{items, Has, IsOnce, Lacks, Settled, Closed, Moved}
use Rattle.hash_ring.proofs.Once.{is_once}
use Rattle.hash_ring.proofs.Places.{same_item, not_free, one-item, put-cases, get_set_same, get_set_other, once-put}

-- ---- The first that a test finds

-- the item that a test finds is in a slot, and passes
find-has : {X : Type 0} (test : X → Bool) (slots : List (Option X)) (x : X) → find test (items slots) ≡ Some x
    → Has slots x × (test x ≡ true)
find-has test [] x e = absurd (none-some x e)
find-has test (None ∷ xs) x e = let r = find-has test xs x e in ((suc r.0.0, r.0.1), r.1)
find-has test (Some z ∷ xs) x e = elim (cases_Bool (test z)) [
  | inl t ↦ let same : z ≡ x = same_Some z x (rw t at e) in ((0, ap (λ w. Some (Some w)) same), ap test (sym same) ∙ t)
  | inr t ↦ let r = find-has test xs x (rw t at e) in ((suc r.0.0, r.0.1), r.1)
]

-- if it finds none, no item passes
find-none : {X : Type 0} (test : X → Bool) (slots : List (Option X)) (i : ℕ) (x : X) → find test (items slots) ≡ None
    → slice_get slots i ≡ Some (Some x) → test x ≡ true → ⊥
find-none test [] i x e s t = none-some (Some x) s
find-none test (None ∷ xs) zero x e s t = not_free x (sym s)
find-none test (None ∷ xs) (suc i) x e s t = find-none test xs i x e s t
find-none test (Some z ∷ xs) zero x e s t =
    let u : test z ≡ true = ap test (same_item z x s) ∙ t in none-some z (sym (rw u at e))
find-none test (Some z ∷ xs) (suc i) x e s t = elim (cases_Bool (test z)) [
  | inl u ↦ none-some z (sym (rw u at e))
  | inr u ↦ find-none test xs i x (rw u at e) s t
]

-- an option is none or some
pub option-cases : {X : Type 0} (o : Option X) → (o ≡ None) ⊎ ((x : X) × (o ≡ Some x))
option-cases None = inl refl
option-cases (Some x) = inr (x, refl)

module _ {K V : Type 0} (content : K → List ℕ) where
  -- ---- By what the slots hold

  -- the item of a content is in a slot, and has the content
  pub under-has : (slots : List (Option (K × V))) (q : List ℕ) (p : K × V) → first_of content (items slots) q ≡ Some p
      → Has slots p × (content p.0 ≡ q)
  under-has slots q p e = let r = find-has (λ p. bytes_eq (content p.0) q) slots p e in (r.0, (bytes_eq-Decides (content p.0) q).0 r.1)

  -- if a content has no item, no slot has the content
  pub under-lacks : (slots : List (Option (K × V))) (q : List ℕ) → first_of content (items slots) q ≡ None
      → Lacks (λ p. content p.0) slots q
  under-lacks slots q e j p s c = find-none (λ p. bytes_eq (content p.0) q) slots j p e s ((bytes_eq-Decides (content p.0) q).1 c)

  -- and conversely
  pub lacks-under : (slots : List (Option (K × V))) (q : List ℕ) → Lacks (λ p. content p.0) slots q
      → first_of content (items slots) q ≡ None
  lacks-under slots q lacks = elim (option-cases (first_of content (items slots) q)) [
    | inl e ↦ e
    | inr r ↦ let h = under-has slots q r.0 r.1 in absurd (lacks h.0.0 r.0 h.0.1 h.1)
  ]

  -- the item in a slot is the item of its content, if no content occurs twice
  pub has-under : (slots : List (Option (K × V))) (i : ℕ) (p : K × V) (q : List ℕ) → IsOnce (λ p. content p.0) slots
      → slice_get slots i ≡ Some (Some p)
      → content p.0 ≡ q → first_of content (items slots) q ≡ Some p
  has-under slots i p q once s c = elim (option-cases (first_of content (items slots) q)) [
    | inl e ↦ absurd (under-lacks slots q e i p s c)
    | inr r ↦
        let h = under-has slots q r.0 r.1 in
        let place : h.0.0 ≡ i = once h.0.0 i r.0 p h.0.1 s (h.1 ∙ sym c) in
        r.1 ∙ ap Some (one-item slots i r.0 p (ap (slice_get slots) (sym place) ∙ h.0.1) s)
  ]

  -- slots that hold the same items of a content have the same item for it
  pub under-same : (old new : List (Option (K × V))) (q : List ℕ) → IsOnce (λ p. content p.0) new
      → ((p : K × V) → content p.0 ≡ q → Has old p → Has new p) → ((p : K × V) → content p.0 ≡ q → Has new p → Has old p)
      → first_of content (items new) q ≡ first_of content (items old) q
  under-same old new q once keeps only = elim (option-cases (first_of content (items old) q)) [
    | inl e ↦ lacks-under new q (λ j p s c. let h = only p c (j, s) in under-lacks old q e h.0 p h.1 c) ∙ sym e
    | inr r ↦ let h = under-has old q r.0 r.1 in let k = keeps r.0 h.1 h.0 in has-under new k.0 r.0 q once k.1 h.1 ∙ sym r.1
  ]

  -- ---- What calls do

  -- other slots hold the same items
  pub under-moved : (old new : List (Option (K × V))) → IsOnce (λ p. content p.0) old → Moved old new
      → first_of content (items new) ≡ first_of content (items old)
  under-moved old new once m =
      fun_ext (λ q. under-same old new q (m.once (λ p. content p.0) once) (λ p c h. m.keeps p h) (λ p c h. m.only p h))

  -- one content has another item, and the slots hold the same items of any other content
  under-changed : (old new : List (Option (K × V))) (q : List ℕ) (here : Option (K × V)) → IsOnce (λ p. content p.0) new
      → first_of content (items new) q ≡ here → ((p : K × V) → (content p.0 ≡ q → ⊥) → Has old p → Has new p)
      → ((p : K × V) → (content p.0 ≡ q → ⊥) → Has new p → Has old p)
      → first_of content (items new) ≡ (λ r. if bytes_eq r q then here else first_of content (items old) r)
  under-changed old new q here once e keeps only = fun_ext (λ r. elim (cases_Bool (bytes_eq r q)) [
    | inl t ↦ ap (first_of content (items new)) ((bytes_eq-Decides r q).0 t) ∙ e ∙ sym (cond-true (bytes_eq r q) here _ t)
    | inr t ↦
        let apart : (p : K × V) → content p.0 ≡ r → content p.0 ≡ q → ⊥ =
        λ p c d. both_ways (bytes_eq r q) t ((bytes_eq-Decides r q).1 (sym c ∙ d)) in
        under-same old new r once (λ p c. keeps p (apart p c)) (λ p c. only p (apart p c)) ∙ sym (cond-false (bytes_eq r q) here _ t)
  ])

  -- a pair was inserted
  pub under-settled : (old new : List (Option (K × V))) (k : K) (v : V) → IsOnce (λ p. content p.0) old
      → Lacks (λ p. content p.0) old (content k) → Settled old new (k, v)
      → first_of content (items new) ≡ with_pair (first_of content (items old)) (content k) k v
  under-settled old new k v once lacks s =
      let now = s.once (λ p. content p.0) once lacks in
      let none : k ≡ key_or (first_of content (items old) (content k)) k = sym (ap (λ o. key_or o k) (lacks-under old (content k) lacks)) in
      under-changed old new (content k) _ now (has-under new s.put.0 (k, v) (content k) now s.put.1 refl ∙ ap (λ l. Some (l, v)) none)
      (λ p d. s.keeps p) (λ p d h. elim (s.only p h) [ inl o ↦ o | inr e ↦ absurd (d (ap (λ p. content p.0) e)) ])

  -- a pair was removed
  pub under-closed : (old new : List (Option (K × V))) (at : ℕ) (p : K × V) → IsOnce (λ p. content p.0) old
      → slice_get old at ≡ Some (Some p)
      → Closed old new at → first_of content (items new) ≡ without (first_of content (items old)) (content p.0)
  under-closed old new at p once there s =
      under-changed old new (content p.0) None (s.once (λ p. content p.0) once)
      (lacks-under new (content p.0) (λ j x h c. let o = s.only x (j, h) in o.1 (once o.0 at x p o.2 there c)))
      (λ x d h. s.keeps x (h.0, (λ e. d (ap (λ p. content p.0) (one-item old at x p (ap (slice_get old) (sym e) ∙ h.1) there))), h.1))
      (λ x d h. let o = s.only x h in (o.0, o.2))

  -- a value was replaced
  module _ (old : List (Option (K × V))) (at : ℕ) (l : K) (u v : V) (once : IsOnce (λ p. content p.0) old)
      (there : slice_get old at ≡ Some (Some (l, u))) where
    pub once-value : IsOnce (λ p. content p.0) (set old at (Some (l, v)))
    once-value =
        once-put (λ p. content p.0) old at (Some (l, u)) (l, v) there once (λ j y s e. once j at y (l, u) s there e)

    pub under-value : (k : K)
        → first_of content (items (set old at (Some (l, v)))) ≡ with_pair (first_of content (items old)) (content l) k v
    under-value k =
        let key : l ≡ key_or (first_of content (items old) (content l)) k =
        sym (ap (λ o. key_or o k) (has-under old at (l, u) (content l) once there refl)) in
        under-changed old (set old at (Some (l, v))) (content l) _ once-value
        (has-under (set old at (Some (l, v))) at (l, v) (content l) once-value (get_set_same old at _ _ there) refl
        ∙ ap (λ l. Some (l, v)) key)
        (λ p d h. elim (cases_eq h.0 at) [
          | inl e ↦ absurd (d (ap (λ p. content p.0) (one-item old at p (l, u) (ap (slice_get old) (sym e) ∙ h.1) there)))
          | inr e ↦ (h.0, get_set_other old at h.0 (Some (l, v)) e ∙ h.1)
        ])
        (λ p d h. elim (put-cases old at h.0 (Some (l, u)) (l, v) p there h.1) [
          | inl a ↦ absurd (d (ap (λ p. content p.0) a.1))
          | inr a ↦ (h.0, a.1)
        ])

-- ---- A list of pairs as slots that are all taken

items-some : {X : Type 0} (xs : List X) → items (map (λ x. Some x) xs) ≡ xs
items-some [] = refl
items-some (x ∷ xs) = ap (λ ys. x ∷ ys) (items-some xs)

-- the item in such a slot
some-get : {X : Type 0} (xs : List X) (i : ℕ) (x : X) → slice_get (map (λ x. Some x) xs) i ≡ Some (Some x) → slice_get xs i ≡ Some x
some-get [] i x s = absurd (none-some (Some x) s)
some-get (z ∷ xs) zero x s = same_Some (Some z) (Some x) s
some-get (z ∷ xs) (suc i) x s = some-get xs i x s

module _ {K V : Type 0} (content : K → List ℕ) where
  -- the item of a content is in the list, and has the content
  pub under-in : (pairs : List (K × V)) (q : List ℕ) (p : K × V) → first_of content pairs q ≡ Some p
      → (i : ℕ) × (slice_get pairs i ≡ Some p) × (content p.0 ≡ q)
  under-in pairs q p e =
      let r = under-has content (map (λ p. Some p) pairs) q p (ap (λ ps. first_of content ps q) (items-some pairs) ∙ e) in
      (r.0.0, some-get pairs r.0.0 p r.0.1, r.1)

  -- an item of the list is the item of its content, if no content occurs twice
  pub in-under : (pairs : List (K × V)) (i : ℕ) (p : K × V) → AreOnce content pairs → slice_get pairs i ≡ Some p
      → first_of content pairs (content p.0) ≡ Some p
  in-under pairs i p once s =
      ap (λ ps. first_of content ps (content p.0)) (sym (items-some pairs))
      ∙ has-under content (map (λ p. Some p) pairs) i p (content p.0)
      (is_once content (map (λ p. Some p) pairs) (subst (λ ps. AreOnce content ps) (sym (items-some pairs)) once)) (slice_get-map _ pairs i ∙ ap (option_map _) s)
      refl
