-- Names that stay in a map.
use Rattle.std.proofs.lemmas.Bool.Decides.{nat_tests}
use Rattle.std.proofs.Common.{arith, ◌≡◌, ℕ, ap, sym, ◌∙◌, Bool, false, cond, Option, None}
use Rattle.std.specs.Prelude.{filter}
use Rattle.std.specs.Option.{option_map_or}
use Rattle.std.specs.Ordering.{nat_cmp}
use Rattle.std.specs.Cmp.{nat_cmp_total, eq_by_cmp_equiv, Equal-is}
use Rattle.std.specs.FinMap as map
use Rattle.std.specs.FinMap.{get-retain_keys, same_map, nat_cmp-IsAntisymmetric}
use Rattle.std.specs.Map.{lookup}
use Rattle.std.specs.BTreeMap.{is_at, keys, IsOrdered, BTreeMap}
use Rattle.std.proofs.lemmas.Map.Keys.{IsDistinct-from_sorted}
use Rattle.std.proofs.lemmas.Map.Entries.{lookup-filter-keys, lookup-filter-values, option_filter}
use Rattle.name_map.proofs.MapLemmas.{tree_get}

module _ {X : Type 0} where
  -- the names in a tree that pass a test
  pub tree_left : (m n : BTreeMap ℕ X) (test : ℕ → Bool) → n.entries ≡ filter (λ e. test e.0) m.entries
      → map.from_entries {R = nat_cmp} n.entries ≡ map.retain_keys (map.from_entries m.entries) test
  tree_left m n test left = same_map nat_cmp_total nat_cmp-IsAntisymmetric _ _ (λ q.
      tree_get n q ∙ ap (lookup (is_at (nat_cmp q))) left
      ∙ lookup-filter-keys (is_at (nat_cmp q)) test (test q)
      (λ k same. ap test (sym (nat_cmp-IsAntisymmetric q k ((Equal-is (nat_cmp q k)).0 same)))) m.entries
      ∙ ap (λ (o : Option X). cond (test q) o None) (sym (tree_get m q))
      ∙ sym (get-retain_keys (map.from_entries {R = nat_cmp} m.entries) test q
      (λ x same. ap test (sym (nat_cmp-IsAntisymmetric q x same)))))

  tested : (p : X → Bool) (o : Option X) → option_filter p o ≡ cond (option_map_or p o false) o None
  tested p o = grind (arith, nat_tests)

  -- the names in a tree whose values pass a test
  pub tree_used : (m n : BTreeMap ℕ X) (test : X → Bool) → IsOrdered nat_cmp m → n.entries ≡ filter (λ e. test e.1) m.entries
      → map.from_entries {R = nat_cmp} n.entries
      ≡ map.retain_keys (map.from_entries m.entries) (λ q. option_map_or test (map.get (map.from_entries {R = nat_cmp} m.entries) q) false)
  tree_used m n test order left = same_map nat_cmp_total nat_cmp-IsAntisymmetric _ _ (λ q.
      tree_get n q ∙ ap (lookup (is_at (nat_cmp q))) left
      ∙ lookup-filter-values (eq_by_cmp_equiv nat_cmp_total) test q m.entries (IsDistinct-from_sorted nat_cmp (keys m) order)
      ∙ ap (option_filter test) (sym (tree_get m q))
      ∙ tested test (map.get (map.from_entries {R = nat_cmp} m.entries) q)
      ∙ sym (get-retain_keys (map.from_entries {R = nat_cmp} m.entries)
      (λ q. option_map_or test (map.get (map.from_entries {R = nat_cmp} m.entries) q) false) q
      (λ x same. ap (λ (k : ℕ). option_map_or test (map.get (map.from_entries {R = nat_cmp} m.entries) k) false)
      (sym (nat_cmp-IsAntisymmetric q x same)))))
