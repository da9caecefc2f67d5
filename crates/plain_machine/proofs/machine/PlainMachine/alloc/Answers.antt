use Rattle.plain_machine.proofs.MarkLemmas.{alloc_later}
use Rattle.plain_machine.proofs.machine.PlainMachine.alloc.Goals as goal

pub invariant_of-self-in_default-answer : goal.invariant_of-self-in_default-answer
invariant_of-self-in_default-answer c =
    alloc_later _ _ _ c.args.refused _ _ c.in-Some-2.is _ _ c.in_ok-answer.ensures.step c.alloc.ensures.later c.self.invariant

pub invariant_of-self-in_err-bytes : goal.invariant_of-self-in_err-bytes
invariant_of-self-in_err-bytes c =
    alloc_later _ _ _ c.args.refused _ _ c.in-Some-2.is _ _ c.in_ok-answer.ensures.step c.alloc.ensures.later c.self.invariant

pub invariant_of-self-2 : goal.invariant_of-self-2
invariant_of-self-2 c =
    alloc_later _ _ _ c.args.refused _ _ c.in-Some-2.is _ _ c.in_ok-answer.ensures.step c.alloc.ensures.later c.self.invariant
