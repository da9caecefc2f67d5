use Rattle.std.proofs.Common.{arith}
use Rattle.std.specs.Ordering.{nat_cmp}
use Rattle.std.specs.FinMap.{empty, get-empty}
use Rattle.name_map.proofs.NameLemmas.{named_none}
use Rattle.name_map.proofs.names.Names.clear.Goals as goal

pub invariant_of-self : goal.invariant_of-self
invariant_of-self g c =
    (omega (arith, c.loop-at.invariant.long, c.self.invariant.0), λ name low. rw c.new.ensures.empty (get-empty nat_cmp name))

pub returns : goal.returns
returns g c = rw c.new.ensures.empty (named_none 0 c.loop-at.self-inside.first.items empty
    (λ k within. c.loop-at.invariant.none k (omega (arith, c.loop-at.invariant.long, c.loop-at.invariant.end, c.loop-at-test.false))))
