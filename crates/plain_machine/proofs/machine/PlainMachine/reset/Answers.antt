use Rattle.plain_machine.proofs.HoldingLemmas.{end_none}
use Rattle.plain_machine.proofs.machine.PlainMachine.reset.Goals as goal

pub invariant_of-self : goal.invariant_of-self
invariant_of-self c = rw (c.clear.ensures, c.clear-3.ensures.items) (end_none _, tt)
