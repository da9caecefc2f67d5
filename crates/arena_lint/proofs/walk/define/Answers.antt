use Rattle.std.proofs.Common.{arith}
use Rattle.arena_lint.proofs.SpendingLemmas.{takes_more, takes_then, takes_exhausted}
use Rattle.arena_lint.proofs.StoppingLemmas.{goes_exhausted}
use Rattle.arena_lint.proofs.walk.define.Goals as goal

pub returns-clause-takes : goal.returns-clause-takes
returns-clause-takes g c = takes_more _ (omega arith) (takes_then (rw c.from_utf8_unchecked-spelled.ensures at c.in_ok-kind.ensures.takes)
    (takes_exhausted {weight = 0} c.define_name.new.a c.define_name.new.known _ c.give.ensures.exhausted))

pub returns-clause-goes : goal.returns-clause-goes
returns-clause-goes g c =
    goes_exhausted c.give.ensures.exhausted (rw c.from_utf8_unchecked-spelled.ensures at c.in_ok-kind.ensures.goes)
