use Rattle.std.proofs.Common.{◌+◌, ◌<◌, arith}
use Rattle.std.proofs.Math.Nat.{mod-lt}
use Rattle.hash_ring.proofs.FarLemmas.{far-slot, between-start, between-behind, between-nearer, between-ends}
use Rattle.arena_table.proofs.HandleLemmas.{handle-shape, held-homes}
use Rattle.arena_table.proofs.far.far_spot.Goals as goal

pub slots-init : goal.slots-init
slots-init g c = between-start _ _ (held-homes c.requires.held (omega (arith, c.requires.free))) _ _ c.requires.passed

pub slots-preserved-then-is_behind : goal.slots-preserved-then-is_behind
slots-preserved-then-is_behind g c =
    let some : 0 < c.args.table.slots = omega (arith, c.requires.free) in
    let shape = handle-shape _ _ _ _ c.requires.keys_small c.requires.values_small c.requires.held.handle some in
    let under : c.slots.low + c.min.result < c.slots.high = omega (arith, c.min.ensures, c.slots-test.true) in
    between-behind _ _ (held-homes c.requires.held some) _ _ _ _ _ _ c.slots.invariant (omega arith) under
    (far-slot _ c.args.hash _ _ some shape.ring.0 (omega (arith, shape.ring.2)) (omega (arith, under, c.slots.invariant.most))
    c.ring-at.ensures) (c.is_behind.ensures.behind c.if-is_behind.true)

pub slots-preserved : goal.slots-preserved
slots-preserved g c =
    let some : 0 < c.args.table.slots = omega (arith, c.requires.free) in
    let shape = handle-shape _ _ _ _ c.requires.keys_small c.requires.values_small c.requires.held.handle some in
    let under : c.slots.low + c.min.result < c.slots.high = omega (arith, c.min.ensures, c.slots-test.true) in
    between-nearer _ _ (held-homes c.requires.held some) _ _ _ _ _ _ c.slots.invariant (omega arith) under
    (far-slot _ c.args.hash _ _ some shape.ring.0 (omega (arith, shape.ring.2)) (omega (arith, under, c.slots.invariant.most))
    c.ring-at.ensures) (c.is_behind.ensures.nearer c.if-is_behind.false)

pub returns : goal.returns
returns g c =
    let some : 0 < c.args.table.slots = omega (arith, c.requires.free) in
    let shape = handle-shape _ _ _ _ c.requires.keys_small c.requires.values_small c.requires.held.handle some in
    let place = far-slot _ c.args.hash c.slots.low _ some shape.ring.0 (omega (arith, shape.ring.2))
    (omega (arith, c.slots.invariant.ordered, c.slots.invariant.most)) c.ring.ensures in
    between-ends _ _ (held-homes c.requires.held some) _ _ _ _ _ c.slots.invariant (omega (arith, c.slots-test.false))
    c.requires.held.table.ordered (mod-lt c.args.hash some) c.requires.free place
