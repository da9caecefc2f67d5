use Rattle.std.proofs.Common.{◌≡◌, drop, length}
use Rattle.call_rules.specs.Machine.{run_from}
use Rattle.plain_machine.proofs.RunLemmas.{run_after}
use Rattle.plain_machine.proofs.machine.PlainMachine.run_from.Given as goal

abbrev pub invariant-loop-i : goal.invariant-loop-i
invariant-loop-i l = record {
  even : length l.calls ≡ length l.refused;
  left : run_from l.initial.self l.calls l.refused ≡ run_after l.replies.items l.self (drop l.i l.calls) (drop l.i l.refused);
}
