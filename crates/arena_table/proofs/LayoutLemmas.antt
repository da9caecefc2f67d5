-- A table's layout.
use Rattle.std.proofs.Common.{◌≡◌, ℕ, ◌-◌, ◌*◌, ◌^◌, ◌≤◌, true, max, refl, arith, IsTrue}
use Rattle.std.specs.Prelude.{nat_le}
use Rattle.std.proofs.lemmas.Bool.{and_parts}
use Rattle.std.proofs.lemmas.Bool.Decides.{nat_tests}
use Rattle.std.proofs.Math.Nat.{zero-mod}
use Rattle.arena_rules.specs.Rounding.{up, is_layout, is_power}
use Rattle.arena_items.specs.Layout.{IsAlign, IsItemLayout}
use Rattle.arena_items.specs.laws.LayoutLaws.{IsAlign-bounds, up-is, plain_8, pair_layout}
use Rattle.arena_items.proofs.Layers.{row_is_layout}
use Rattle.hash_ring.specs.Policy.{table_align, slot_size}
use Rattle.hash_ring.proofs.PolicyLemmas.{table-small}

-- the alignment of a table is one that a type may have
pub table-align : (k v ka va : ℕ) → IsItemLayout k ka → IsItemLayout v va → IsAlign (table_align ka va)
table-align k v ka va keys values =
    let both = pair_layout k ka v va keys values in
    (pair_layout 8 8 _ (max ka va) plain_8 both).is_align

-- a table of n slots has a layout
pub table-layout : (k v ka va slots : ℕ) → IsItemLayout k ka → IsItemLayout v va → k ≤ 2 ^ 24 → v ≤ 2 ^ 24 → slots ≤ 2 ^ 33
    → IsTrue (is_layout (slots * slot_size k v) (table_align ka va))
table-layout k v ka va slots keys values small small' few =
    let align = table-align k v ka va keys values in
    let bounds = IsAlign-bounds (table_align ka va) align in
    let near = up-is (slots * slot_size k v) (table_align ka va) align in
    let size = table-small k v slots small small' few in
    let plain = row_is_layout 0 0 (table_align ka va) (record {
      is_align = align;
      whole = zero-mod (table_align ka va);
      bounded = omega
          arith;
    }) (omega arith) (omega arith) in
    let fits : nat_le (up (slots * slot_size k v) (table_align ka va)) (2 ^ 63 - 1) ≡ true = grind
    (arith, nat_tests, near.below, bounds.1, size) in
    rw ((and_parts (is_power (table_align ka va)) _ plain).0, fits) refl
