use Rattle.std.proofs.lemmas.Bool.Decides.{nat_tests}
use Rattle.std.proofs.Common.{◌<◌, arith}
use Rattle.arena_table.proofs.SearchLemmas.{seeking-start, seeking-on, seeking-spot, seeking-less}
use Rattle.arena_table.proofs.table.Table.spot_for.Goals as goal

pub slots-init : goal.slots-init
slots-init g c = grind (arith, nat_tests, seeking-start)

pub returns-then-bytes-at : goal.returns-then-bytes-at
returns-then-bytes-at g c = λ h table room.
    seeking-spot _ _ _ _ c.args.hash (omega arith) c.requires.shape _ _ _ (omega arith) c.slots.invariant _ table
    (omega (arith, c.least.ensures, c.if-bytes-at.true))

pub slots-preserved : goal.slots-preserved
slots-preserved g c =
    seeking-on _ _ _ _ c.args.hash (omega arith) c.requires.shape _ _ _ (omega arith) c.slots.invariant _ _
    (omega (arith, c.least.ensures, c.if-bytes-at.false)) c.ring-at-in-slots.ensures
    (c.farther-mark.ensures c.args.hash c.slots.counter c.slots.invariant.mark_is)

pub returns : goal.returns
returns g c = λ h table room.
    let some : 0 < c.args.self.slots = omega arith in
    absurd (omega (
      arith,
      seeking-less _ _ _ _ c.args.hash some c.requires.shape _ _ _ c.slots.invariant _ table room,
    ))
