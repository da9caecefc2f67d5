-- A block that is readable has a layout, so one of its size may be placed.
use Rattle.std.proofs.Common.{◌≡◌, ℕ, ◌+◌, ◌^◌, ◌≤◌, refl, arith, true, IsTrue}
use Rattle.std.proofs.lemmas.Bool.Decides.{nat_tests}
use Rattle.arena_rules.specs.Rounding.{up, is_power, is_power_among, is_layout}
use Rattle.arena_rules.specs.State.{State, IsValid}
use Rattle.arena_chunks.specs.Memory.{is_readable}
use Rattle.arena_store.specs.declared.block.Block.{Block}
pub use Rattle.arena_chunks.proofs.Layers.{readable_size}
use Rattle.arena_items.specs.Layout.{IsAlign}
use Rattle.arena_items.specs.Layout.IsAlign.{one, two, four, eight, sixteen}
use Rattle.arena_items.specs.laws.LayoutLaws.{IsAlign-bounds}

power : (align : ℕ) → IsAlign align → is_power align ≡ true
unfolding is_power_among
power _ one = refl
power _ two = refl
power _ four = refl
power _ eight = refl
power _ sixteen = refl

-- A size has a layout of an item's alignment if their sum is at most 2 ^ 63.
pub fits_layout : (size align : ℕ) → IsAlign align → size + align ≤ 2 ^ 63 → IsTrue (is_layout size align)
unfolding is_power_among up
fits_layout size align is few = grind (arith, nat_tests, power)

pub readable_layout : (state : State) (b : Block) (align : ℕ) → IsValid state → IsAlign align → IsTrue (is_readable state b)
    → IsTrue (is_layout b.size align)
readable_layout state b align valid is readable =
    let few = readable_size state b valid readable in
    let bounds = IsAlign-bounds align is in
    fits_layout b.size align is (omega arith)
