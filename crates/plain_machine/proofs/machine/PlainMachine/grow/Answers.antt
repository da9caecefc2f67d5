use Rattle.plain_machine.proofs.MarkLemmas.{grow_later}
use Rattle.plain_machine.proofs.machine.PlainMachine.grow.Goals as goal

pub invariant_of-self-in_default-answer : goal.invariant_of-self-in_default-answer
invariant_of-self-in_default-answer c =
    grow_later _ _ _ c.args.refused _ _ c.in-Some-2.is _ _ _ _ _ c.in_ok-answer.ensures.step c.grow.ensures.later c.self.invariant

pub invariant_of-self-in_err-bytes : goal.invariant_of-self-in_err-bytes
invariant_of-self-in_err-bytes c =
    grow_later _ _ _ c.args.refused _ _ c.in-Some-2.is _ _ _ _ _ c.in_ok-answer.ensures.step c.grow.ensures.later c.self.invariant

pub invariant_of-self-2 : goal.invariant_of-self-2
invariant_of-self-2 c =
    grow_later _ _ _ c.args.refused _ _ c.in-Some-2.is _ _ _ _ _ c.in_ok-answer.ensures.step c.grow.ensures.later c.self.invariant
