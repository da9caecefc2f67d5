use Rattle.std.proofs.Common.{◌≡◌, ◌-◌, drop, length}
use Rattle.call_rules.specs.Machine.{mark_named}
use Rattle.plain_machine.proofs.marks.mark_named.Given as goal

abbrev pub invariant-loop-i : goal.invariant-loop-i
invariant-loop-i l = mark_named l.marks l.name ≡ mark_named (drop l.i l.marks) l.name

abbrev pub decreases-loop-i : goal.decreases-loop-i
decreases-loop-i l = length l.marks - l.i
