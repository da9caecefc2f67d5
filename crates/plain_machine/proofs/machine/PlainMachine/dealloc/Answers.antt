use Rattle.std.proofs.Common.{arith}
use Rattle.plain_machine.proofs.HoldingLemmas.{end_remove, end_later, dealloc_top}
use Rattle.plain_machine.proofs.MarkLemmas.{marks_dealloc}
use Rattle.plain_machine.proofs.machine.PlainMachine.dealloc.Goals as goal

pub invariant_of-self : goal.invariant_of-self
invariant_of-self c =
    let state = c.self.inside.state in
    let top = dealloc_top state c.in-Some.place.addr c.in-Some.place.size in
    rw (c.remove.ensures, c.dealloc.ensures) (
      end_later _ _ _ (omega (arith, top)) (end_remove _ _ c.args.name c.self.invariant.0),
      marks_dealloc state c.in-Some.place.addr c.in-Some.place.size _ _ c.self.invariant.1,
    )
