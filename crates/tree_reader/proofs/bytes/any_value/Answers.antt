use Rattle.std.proofs.Common.{arith}
use Rattle.tree_reader.proofs.ByteLemmas.{value_over}
use Rattle.tree_reader.proofs.bytes.any_value.Goals as goal

pub returns-then-n-one : goal.returns-then-n-one
returns-then-n-one c = value_over c.loop-d.n c.loop-d.d-index _ c.args.digits.now c.loop-d-test.true c.loop-d.invariant (omega arith)
