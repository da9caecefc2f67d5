use Rattle.std.proofs.Common.{arith}
use Rattle.std.specs.Ordering.{nat_cmp}
use Rattle.std.specs.FinMap.{get-empty}
use Rattle.name_map.proofs.names.Names.new.Goals as goal

pub invariant_of-result : goal.invariant_of-result
invariant_of-result g c = (omega (arith, c.new.ensures.len), λ name low. rw c.new-2.ensures.empty (get-empty nat_cmp name))

pub returns : goal.returns
returns g c = rw (c.new.ensures.items, c.new-2.ensures.empty)
