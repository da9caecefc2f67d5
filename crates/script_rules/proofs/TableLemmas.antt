-- Maps of names as entries.
use Rattle.std.proofs.Common.{◌≡◌, ℕ, refl, sym, ap, ◌∙◌, arith, Bool, cond, List, [], ◌∷◌, Option, Some, None, length, nat_cmp}
use Rattle.std.specs.Prelude.{◌==◌}
use Rattle.std.specs.Cmp.{unsigned_tied, nat_cmp_total}
use Rattle.std.specs.FinMap as map
use Rattle.std.specs.FinMap.{FinMap, get-entries, get-remove, entries-insert, len-empty, len-entries}
use Rattle.std.specs.BTreeMap as tree
use Rattle.std.specs.BTreeMap.{BTreeMap}
use Rattle.name_map.proofs.MapLemmas.{tree_insert}
use Rattle.script_rules.specs.Objects.{Entries, bind, unbind}
use Rattle.script_rules.proofs.EntryLemmas.{of_T, rising_unbind}
use Rattle.script_rules.proofs.LookupLemmas.{get_unbind, same_by_get}

module _ {X : Type 0} where
  pub no_entries : map.entries (map.empty {X = X} {R = nat_cmp}) ≡ []
  no_entries =
      no_items (map.entries (map.empty {X = X} {R = nat_cmp})) (sym (len-entries (map.empty {X = X} {R = nat_cmp})) ∙ len-empty nat_cmp X)
    where
      no_items : (es : Entries X) → length es ≡ 0 → es ≡ []
      no_items [] e = refl
      no_items (e ∷ es) h = absurd (omega (arith, h))

  pub map_bind : (m : FinMap nat_cmp X) (k : ℕ) (v : X) → map.entries (map.insert m k v) ≡ bind (map.entries m) k v
  map_bind m k v = entries-insert nat_cmp_total m k v

  pub map_unbind : (m : FinMap nat_cmp X) (k : ℕ) → map.entries (map.remove m k) ≡ unbind (map.entries m) k
  map_unbind m k = same_by_get (map.entries (map.remove m k)) (unbind (map.entries m) k) (of_T _ (map.entries_sorted (map.remove m k)))
      (rising_unbind (map.entries m) k (of_T _ (map.entries_sorted m)))
      (λ q. sym (get-entries (map.remove m k) q) ∙ get-remove nat_cmp_total m k q
      ∙ ap (λ (b : Bool). cond b None (map.get m q)) (unsigned_tied q k)
      ∙ ap (λ (o : Option X). cond (q == k) None o) (get-entries m q) ∙ sym (get_unbind (map.entries m) k q))

  -- a tree's entries: of each key the first counts
  abbrev pub entries_of : List (ℕ × X) → Entries X
  entries_of pairs = map.entries (map.from_entries {R = nat_cmp} pairs)

  pub entries_none : (pairs : List (ℕ × X)) → pairs ≡ [] → entries_of pairs ≡ []
  entries_none pairs none = ap (λ es. map.entries (map.from_entries {R = nat_cmp} es)) none ∙ no_entries

  pub tree_bind : (m n : BTreeMap ℕ X) (k : ℕ) (v : X) → tree.Updates nat_cmp m n k (Some v)
      → entries_of n.entries ≡ bind (entries_of m.entries) k v
  tree_bind m n k v updates = ap map.entries (tree_insert m n k v updates) ∙ map_bind (map.from_entries m.entries) k v

pub ruleset name_laws = (no_entries, map_bind, map_unbind, get-entries)
