-- Two maps whose pairs are compared.
use Rattle.std.proofs.lemmas.Bool.Decides.{nat_tests}
use Rattle.std.proofs.Common.{◌≡◌, ℕ, List, [], ◌∷◌, ◌++◌, append-nil, sym, ap, subst, ◌∙◌, arith, Some, None, Option, Bool, true, false}
use Rattle.std.proofs.lemmas.Bool.{both_ways, not-true, not-false}
use Rattle.std.specs.Prelude.{slice_get, not, IsTrue}
use Rattle.arena_chunks.specs.Memory.{Memory, is_readable}
use Rattle.hash_ring.specs.Finite.{has, value_of}
use Rattle.hash_ring.specs.Walks.{AreBoth, AreEqual, Lists}
use Rattle.hash_ring.proofs.Equal.{AreFound, both-has, equal-found, found-equal, found-next, same-length}
use Rattle.hash_ring.proofs.Under.{in-under, under-has}
use Rattle.arena_table.specs.Contents.{Kind, content_in}
use Rattle.arena_table.specs.Tables.{slots_in}
use Rattle.arena_hash.specs.Maps.{IsMapIn, map_in, pairs_in}
use Rattle.arena_hash.specs.declared.map.HashMap.{HashMap}
use Rattle.arena_hash.proofs.Beside.{texts-beside}

module _ {K V S : Type 0} {k : Kind K V S} {memory : Memory} (eq : V → V → Bool) {one other : HashMap K V S} (held : IsMapIn k memory one)
    (held' : IsMapIn k memory other) where
  abbrev content : K → List ℕ
  content = content_in k.key memory

  -- equal maps have as many pairs
  pub equal-len : AreEqual {K = K} eq (map_in k memory one) (map_in k memory other) → one.len ≡ other.len
  equal-len equal = grind (arith, nat_tests, same-length, both-has)

  -- A walk gives the pairs of the first map, and the other has those that were given.
  module _ {xs all done left : List (K × V)} (lists : Lists content (map_in k memory one) xs) (are : all ≡ xs)
      (found : AreFound content eq (map_in k memory other) all done left) where
    listed : Lists content (map_in k memory one) all
    listed = rw are lists

    module _ (x : K × V) (rest : List (K × V)) (step : left ≡ x ∷ rest) where
      there : (i : ℕ) × (slice_get all i ≡ Some x)
      there = found-next content eq (map_in k memory other) all done rest x (rw step at found)

      -- the text of the next pair is readable
      pub next-readable : IsTrue (is_readable memory.state (k.key.text x.0))
      next-readable =
          let is : map_in k memory one (content x.0) ≡ Some x =
          sym (ap (λ m. m (content x.0)) listed.map_is) ∙ in-under content all there.0 x listed.once there.1 in
          let h = under-has content (slots_in k.keys k.values memory one.table) (content x.0) x is in
          (texts-beside k memory one held.texts held.apart x h.0).readable

      -- if the maps are equal, it has an equal value in the other
      pub next-equal : AreEqual {K = K} eq (map_in k memory one) (map_in k memory other)
          → AreBoth eq (Some x.1) (value_of (map_in k memory other (content x.0)))
      next-equal equal =
          found-equal content eq (map_in k memory other) all listed.once
          (subst (λ m. AreEqual {K = K} eq m (map_in k memory other)) (sym listed.map_is) equal) there.0 x there.1

    -- at the end the maps are equal
    pub all-equal : one.len ≡ other.len → left ≡ [] → AreEqual {K = K} eq (map_in k memory one) (map_in k memory other)
    all-equal len none =
        let same = same-length content content all (pairs_in k memory one) listed.once held.once (λ q. ap (λ m. has m q) listed.map_is) in
        let whole : all ≡ done = found.whole ∙ (ap (λ r. done ++ r) none ∙ append-nil done) in
        subst (λ m. AreEqual {K = K} eq m (map_in k memory other)) listed.map_is
        (equal-found content eq all (pairs_in k memory other) listed.once (omega (arith, same, len, held.count, held'.count))
        (λ i p s. found.found i p (ap (λ ps. slice_get ps i) (sym whole) ∙ s)))

-- ---- What `get` returned

module _ {V : Type 0} (eq : V → V → Bool) (value found : V) {result other : Option V} (gave : result ≡ other) where
  -- an equal value
  pub gave-equal : result ≡ Some found → false ≡ not (eq value found) → AreBoth eq (Some value) other
  gave-equal is same = subst (λ o. AreBoth eq (Some value) o) (sym is ∙ gave) (not-false (eq value found) (sym same))

  -- another one
  pub gave-other : result ≡ Some found → true ≡ not (eq value found) → AreBoth eq (Some value) other → ⊥
  gave-other is differs both = grind (arith, nat_tests, both_ways, not-true)

  -- none
  pub gave-none : result ≡ None → AreBoth eq (Some value) other → ⊥
  gave-none is both = subst (λ o. AreBoth eq (Some value) o) (sym gave ∙ is) both
