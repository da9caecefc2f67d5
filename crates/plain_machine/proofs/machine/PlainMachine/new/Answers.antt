use Rattle.plain_machine.proofs.HoldingLemmas.{end_none}
use Rattle.plain_machine.proofs.machine.PlainMachine.new.Goals as goal

pub invariant_of-result : goal.invariant_of-result
invariant_of-result c = rw (c.new-2.ensures, c.new-4.ensures.items) (end_none _, tt)
