use Rattle.std.proofs.lemmas.Bool.Decides.{nat_tests}
use Rattle.std.proofs.Common.{arith}
use Rattle.std.proofs.Math.Nat.{mod-lt}
use Rattle.arena_table.proofs.GapLemmas.{near-start, near-on, near-stop}
use Rattle.arena_table.proofs.gap.is_near.Goals as goal

pub slots-init : goal.slots-init
slots-init c = (near-start c.args.slots c.args.bytes.now c.args.at c.requires.at, c.requires.at)

pub returns-then-mark-lt-AWAY : goal.returns-then-mark-lt-AWAY
returns-then-mark-lt-AWAY c = grind (arith, nat_tests, near-stop)

pub slots-preserved : goal.slots-preserved
slots-preserved c = grind (arith, nat_tests, near-on, mod-lt)
