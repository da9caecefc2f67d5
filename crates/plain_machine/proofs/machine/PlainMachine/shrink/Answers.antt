use Rattle.plain_machine.proofs.MarkLemmas.{shrink_later}
use Rattle.plain_machine.proofs.machine.PlainMachine.shrink.Goals as goal

pub invariant_of-self-in_default-answer : goal.invariant_of-self-in_default-answer
invariant_of-self-in_default-answer c =
    shrink_later _ _ _ c.args.refused _ _ c.in-Some-2.is _ _ _ _ _ c.in_ok-answer.ensures.step c.shrink.ensures.later c.self.invariant

pub invariant_of-self-in_err-bytes : goal.invariant_of-self-in_err-bytes
invariant_of-self-in_err-bytes c =
    shrink_later _ _ _ c.args.refused _ _ c.in-Some-2.is _ _ _ _ _ c.in_ok-answer.ensures.step c.shrink.ensures.later c.self.invariant

pub invariant_of-self-2 : goal.invariant_of-self-2
invariant_of-self-2 c =
    shrink_later _ _ _ c.args.refused _ _ c.in-Some-2.is _ _ _ _ _ c.in_ok-answer.ensures.step c.shrink.ensures.later c.self.invariant
