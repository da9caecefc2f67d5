use Rattle.std.proofs.Common.{◌≡◌}
use Rattle.call_rules.specs.Machine.{marks_to}
use Rattle.plain_machine.proofs.marks.keep_to.Given as goal

abbrev pub invariant-loop-mark : goal.invariant-loop-mark
invariant-loop-mark l = marks_to l.marks.items l.name ≡ marks_to l.initial.marks.items l.name

abbrev pub decreases-loop-mark : goal.decreases-loop-mark
decreases-loop-mark l = l.marks.len
