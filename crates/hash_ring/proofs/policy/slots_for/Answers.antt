use Rattle.std.proofs.Common.{arith}
use Rattle.hash_ring.proofs.policy.slots_for.Goals as goal

pub returns : goal.returns
returns c = (c.next_power_of_two.ensures.power, omega arith, omega arith)
