-- A map in a tree as a finite map.
use Rattle.std.proofs.Common.{◌≡◌, ℕ, ap, sym, subst, refl, ◌∙◌, arith, List, [], ◌∷◌, cond, Option, Some, None, Less, IsTrue, T}
use Rattle.std.specs.Ordering.{nat_cmp, eq_by_cmp}
use Rattle.std.specs.Cmp.{unsigned_tied, nat_cmp_total}
use Rattle.std.specs.FinMap as map
use Rattle.std.specs.FinMap.{find, is_sorted, get-from_entries, get-from_sorted, entries-from_sorted, same_map, nat_cmp-IsAntisymmetric}
use Rattle.std.specs.FinMap.Entries.{below_all}
use Rattle.std.specs.List.{AllByRecursion}
use Rattle.std.specs.List.Sorted.{IsStrictlySortedBy}
use Rattle.std.specs.Map.{keys_of}
use Rattle.std.specs.Map.{lookup}
use Rattle.std.specs.BTreeMap.{is_at, get, Updates, BTreeMap}
use Rattle.std.proofs.lemmas.Bool.Decides.{nat_tests}
use Rattle.name_map.proofs.EntryLemmas.{same, after_insert, after_remove}

module _ {X : Type 0} where
  found : (q : ℕ) (es : List (ℕ × X)) → find nat_cmp q es ≡ lookup (is_at (nat_cmp q)) es
  found q [] = refl
  found q (e ∷ es) = ap (λ (o : Option X). cond (eq_by_cmp nat_cmp q e.0) (Some e.1) o) (found q es)

  -- a tree's lookup is that of the finite map of its entries
  pub tree_get : (m : BTreeMap ℕ X) (q : ℕ) → map.get (map.from_entries {R = nat_cmp} m.entries) q ≡ get nat_cmp m q
  tree_get m q = get-from_entries nat_cmp_total m.entries q ∙ found q m.entries

  pub tree_insert : (m n : BTreeMap ℕ X) (k : ℕ) (v : X) → Updates nat_cmp m n k (Some v)
      → map.from_entries {R = nat_cmp} n.entries ≡ map.insert (map.from_entries m.entries) k v
  tree_insert m n k v updates = same _ _ (λ q. grind (arith, nat_tests, tree_get n q, tree_get m q, updates.0 q, unsigned_tied k q, after_insert (map.from_entries {R = nat_cmp} m.entries) k v q))

  pub tree_remove : (m n : BTreeMap ℕ X) (k : ℕ) → Updates nat_cmp m n k None
      → map.from_entries {R = nat_cmp} n.entries ≡ map.remove (map.from_entries m.entries) k
  tree_remove m n k updates = same _ _ (λ q. grind (arith, nat_tests, tree_get n q, tree_get m q, updates.0 q, unsigned_tied k q, after_remove (map.from_entries {R = nat_cmp} m.entries) k q))

  below : (k : ℕ) (es : List (ℕ × X)) → AllByRecursion (λ y. nat_cmp k y ≡ Less) (keys_of es) → IsTrue (below_all nat_cmp k es)
  below k [] all = refl
  below k (e ∷ es) all = rw all.0 (below k es all.1)

  rising : (es : List (ℕ × X)) → IsStrictlySortedBy nat_cmp (keys_of es) → IsTrue (is_sorted nat_cmp es)
  unfolding IsStrictlySortedBy
  rising [] sorted = refl
  rising (e ∷ es) sorted = rw (below e.0 es sorted.0) (rising es sorted.1)

  -- a tree's entries are in order, so they are the finite map's
  pub tree_entries : (es : List (ℕ × X)) → IsStrictlySortedBy nat_cmp (keys_of es) → map.entries (map.from_entries {R = nat_cmp} es) ≡ es
  tree_entries es sorted =
      let order = subst T (sym (rising es sorted)) tt in
      ap map.entries (same_map nat_cmp_total nat_cmp-IsAntisymmetric (map.from_entries es) (map.from_sorted es)
      (λ q. get-from_entries nat_cmp_total es q ∙ sym (get-from_sorted nat_cmp es q order)))
      ∙ entries-from_sorted nat_cmp es order
