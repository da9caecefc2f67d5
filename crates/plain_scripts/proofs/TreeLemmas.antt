-- Trees of names as entries: what is found, and what is left without a name.
use Rattle.std.proofs.Common.{◌≡◌, ℕ, sym, ap, ◌∙◌, None, nat_cmp}
use Rattle.std.specs.FinMap as map
use Rattle.std.specs.FinMap.{get-entries}
use Rattle.std.specs.BTreeMap as tree
use Rattle.std.specs.BTreeMap.{BTreeMap}
use Rattle.name_map.proofs.MapLemmas.{tree_get as finite_get, tree_remove}
use Rattle.script_rules.specs.Objects.{get, unbind}
use Rattle.script_rules.proofs.TableLemmas.{entries_of, map_unbind}

pub tree_get : {X : Type 0} (m : BTreeMap ℕ X) (q : ℕ) → get (entries_of m.entries) q ≡ tree.get nat_cmp m q
tree_get m q = sym (get-entries (map.from_entries {R = nat_cmp} m.entries) q) ∙ finite_get m q

pub tree_unbind : {X : Type 0} (m n : BTreeMap ℕ X) (k : ℕ) → tree.Updates nat_cmp m n k None
    → entries_of n.entries ≡ unbind (entries_of m.entries) k
tree_unbind m n k updates = ap map.entries (tree_remove m n k updates) ∙ map_unbind (map.from_entries m.entries) k
