use Rattle.std.proofs.lemmas.Bool.Decides.{nat_tests}
use Rattle.std.proofs.Common.{sym, ap, ◌∙◌, length, arith}
use Rattle.std.proofs.lemmas.Option.{MatchOption-at_some, MatchOption-at_none}
use Rattle.arena_table.proofs.WalkLemmas.{walk-groups, walk-ended, walk-less, walk-read, walk-some}
use Rattle.arena_hash.proofs.walk.IterIterator.next.Goals as goal

pub step-slot-requires-clause-groups : goal.step-slot-requires-clause-groups
step-slot-requires-clause-groups g c = walk-groups g.K.Item g.V.Item c.self.inside.slots c.self.inside.bytes.now c.self.invariant.shape

pub overflow_sub-self : goal.overflow_sub-self
overflow_sub-self g c =
    walk-some _ _ _ _ _ _ c.self.invariant _ c.step-slot.ensures.scan _
    (MatchOption-at_some _ _ c.in-Some.i c.in-Some.is c.step-slot.ensures.goes)

pub invariant_of-self : goal.invariant_of-self
invariant_of-self g c = grind (arith, nat_tests, walk-less)

pub invariant_of-self-in-None : goal.invariant_of-self-in-None
invariant_of-self-in-None g c =
    let ends = MatchOption-at_none _ _ c.in-None.is c.step-slot.ensures.goes in
    (walk-ended _ _ _ _ _ _ c.self.invariant _ c.step-slot.ensures.scan ends.0 ends.1).0

pub returns-in-Some-clause-steps : goal.returns-in-Some-clause-steps
returns-in-Some-clause-steps g c =
    sym c.self.view_is
    ∙ walk-read _ _ _ _ _ _ c.self.invariant _ c.step-slot.ensures.scan _
    (MatchOption-at_some _ _ c.in-Some.i c.in-Some.is c.step-slot.ensures.goes) c.key_at.result c.value_at.result c.key_at.ensures
    c.value_at.ensures

pub returns-in-Some-clause-goes : goal.returns-in-Some-clause-goes
returns-in-Some-clause-goes g c =
    record { on = λ _. (tt, tt, omega (arith, ap length (returns-in-Some-clause-steps g c))); keeps = tt; rests = λ _. tt }

pub returns-in-None-clause-steps : goal.returns-in-None-clause-steps
returns-in-None-clause-steps g c =
    let ends = MatchOption-at_none _ _ c.in-None.is c.step-slot.ensures.goes in
    let both = walk-ended _ _ _ _ _ _ c.self.invariant _ c.step-slot.ensures.scan ends.0 ends.1 in
    (sym c.self.view_is ∙ both.1, both.2)
