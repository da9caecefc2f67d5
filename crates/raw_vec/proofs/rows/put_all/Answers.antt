use Rattle.std.proofs.Common.{arith, ◌+◌, ◌≤◌, length}
use Rattle.std.specs.List.{flat_map}
use Rattle.std.proofs.lemmas.List.Folds.{length-flat_map-take}
use Rattle.std.proofs.Math.Nat.{mul-le-mul_right}
use Rattle.raw_vec.proofs.rows.put_all.Goals as goal

pub put_items-requires-clause-range : goal.put_items-requires-clause-range
put_items-requires-clause-range g c =
    let inv = c.loop-values.invariant in
    let part = length-flat_map-take (λ s. s.now) c.args.slices.now c.loop-values.values-index c.values-item.result (omega arith) in
    let within : c.loop-values.end + length c.values-item.result.now ≤ c.args.at + length (flat_map (λ s. s.now) c.args.slices.now) =
    grind (arith, inv.end, part, c.values-item.is) in
    omega (arith, c.requires.range, mul-le-mul_right g.T.Item.SIZE within)

pub overflow_add-end : goal.overflow_add-end
overflow_add-end g c =
    let inv = c.loop-values.invariant in
    let part = length-flat_map-take (λ s. s.now) c.args.slices.now c.loop-values.values-index c.values-item.result (omega arith) in
    grind (arith, inv.end, part, c.values-item.is, c.requires.few)
