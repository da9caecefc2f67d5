use Rattle.std.proofs.lemmas.Bool.Decides.{nat_tests}
use Rattle.std.proofs.Common.{arith}
use Rattle.arena_table.proofs.GapLemmas.{gap-start, gap-on, gap-stop, gap-ends}
use Rattle.arena_table.proofs.gap.close_gap.Goals as goal
use Rattle.arena_table.proofs.gap.close_gap.Goals.{then-mark-lt-AWAY-via-then-mark-lt-AWAY, then-mark-lt-AWAY-via-else-mark-lt-AWAY+then-mark-ge-FAR}

pub slots-init : goal.slots-init
slots-init g c = gap-start g.K.Item g.V.Item c.args.slots c.args.at c.args.bytes.now c.requires.at c.requires.shape

pub returns-then-mark-lt-AWAY : goal.returns-then-mark-lt-AWAY
returns-then-mark-lt-AWAY g c =
    grind (arith, nat_tests, gap-stop, then-mark-lt-AWAY-via-then-mark-lt-AWAY, then-mark-lt-AWAY-via-else-mark-lt-AWAY+then-mark-ge-FAR)

pub slots-preserved : goal.slots-preserved
slots-preserved g c =
    gap-on _ _ _ c.args.at c.args.bytes.now c.requires.at _ _ _ _ _ (omega arith) c.slots.invariant c.ring-next.ensures (omega arith)
    (omega arith) c.pull.ensures.shape c.pull.ensures.copies

pub returns : goal.returns
returns g c = gap-ends g.K.Item g.V.Item c.args.slots c.args.at c.args.bytes.now c.requires.at _ _ _ (omega arith) c.slots.invariant
