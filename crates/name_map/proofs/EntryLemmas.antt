-- Names in a finite map: what adding or removing an entry does to the others.
use Rattle.std.proofs.Common.{◌≡◌, ◌≢◌, ℕ, inl, inr, sym, ap, ◌∙◌, Some, None, arith}
use Rattle.std.specs.Prelude.{◌==◌, if◌then◌else◌}
use Rattle.std.specs.Ordering.{nat_cmp}
use Rattle.std.specs.Cmp.{unsigned_tied, nat_cmp_total}
use Rattle.std.specs.FinMap as finite
use Rattle.std.specs.FinMap.{get-insert, get-remove, same_map, nat_cmp-IsAntisymmetric}
use Rattle.std.proofs.lemmas.Bool.{cases_eq}
use Rattle.std.proofs.lemmas.Bool.Decides.{nat_tests}

module _ {X : Type 0} where
  -- what the map has at a name, after an entry was added or removed
  pub after_insert : (m : finite.FinMap nat_cmp X) (k : ℕ) (v : X) (q : ℕ)
      → finite.get (finite.insert m k v) q ≡ (if q == k then Some v else finite.get m q)
  after_insert m k v q = get-insert nat_cmp_total m k v q ∙ ap (λ b. if b then Some v else finite.get m q) (unsigned_tied q k)

  pub after_remove : (m : finite.FinMap nat_cmp X) (k q : ℕ)
      → finite.get (finite.remove m k) q ≡ (if q == k then None else finite.get m q)
  after_remove m k q = get-remove nat_cmp_total m k q ∙ ap (λ b. if b then None else finite.get m q) (unsigned_tied q k)

  pub get-inserted : (m : finite.FinMap nat_cmp X) (k : ℕ) (v : X) → finite.get (finite.insert m k v) k ≡ Some v
  get-inserted m k v = grind (arith, nat_tests, after_insert m k v k)

  pub get-insert_other : (m : finite.FinMap nat_cmp X) (k q : ℕ) (v : X) → q ≢ k → finite.get (finite.insert m k v) q ≡ finite.get m q
  get-insert_other m k q v other = grind (arith, nat_tests, after_insert m k v q)

  pub get-removed : (m : finite.FinMap nat_cmp X) (k : ℕ) → finite.get (finite.remove m k) k ≡ None
  get-removed m k = grind (arith, nat_tests, after_remove m k k)

  pub get-remove_other : (m : finite.FinMap nat_cmp X) (k q : ℕ) → q ≢ k → finite.get (finite.remove m k) q ≡ finite.get m q
  get-remove_other m k q other = grind (arith, nat_tests, after_remove m k q)

  -- maps that agree everywhere, or at a key and at all others, are the same
  pub same : (m n : finite.FinMap nat_cmp X) → ((q : ℕ) → finite.get m q ≡ finite.get n q) → m ≡ n
  same = same_map nat_cmp_total nat_cmp-IsAntisymmetric

  pub agree : (m n : finite.FinMap nat_cmp X) (k : ℕ) → finite.get m k ≡ finite.get n k
      → ((q : ℕ) → q ≢ k → finite.get m q ≡ finite.get n q)
      → m ≡ n
  agree m n k own others = same m n (λ q. elim (cases_eq q k) [ inl e ↦ rw e own | inr other ↦ others q other ])

  pub insert_again : (m : finite.FinMap nat_cmp X) (k : ℕ) (a b : X) → finite.insert (finite.insert m k a) k b ≡ finite.insert m k b
  insert_again m k a b = same _ _ (λ q. grind (arith, nat_tests, after_insert))

  pub remove_inserted : (m : finite.FinMap nat_cmp X) (k : ℕ) (a : X) → finite.get m k ≡ None → finite.remove (finite.insert m k a) k ≡ m
  remove_inserted m k a none = agree _ _ k (get-removed (finite.insert m k a) k ∙ sym none) (λ q other. grind (arith, nat_tests, after_insert, after_remove))

  pub remove_absent : (m : finite.FinMap nat_cmp X) (k : ℕ) → finite.get m k ≡ None → finite.remove m k ≡ m
  remove_absent m k none = agree _ _ k (get-removed m k ∙ sym none) (λ q other. get-remove_other m k q other)

  -- what is held after a removal was held before
  pub less_removed : (m : finite.FinMap nat_cmp X) (k q : ℕ) (v : X) → finite.get (finite.remove m k) q ≡ Some v → finite.get m q ≡ Some v
  less_removed m k q v at = grind (arith, nat_tests, after_remove m k q)
