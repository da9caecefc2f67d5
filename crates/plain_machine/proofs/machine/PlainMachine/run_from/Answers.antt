use Rattle.std.proofs.Common.{sym}
use Rattle.plain_machine.proofs.RunLemmas.{run_uneven}
use Rattle.plain_machine.proofs.machine.PlainMachine.run_from.Goals as goal

pub returns-then-calls-refused : goal.returns-then-calls-refused
returns-then-calls-refused c = sym (run_uneven c.args.self.now c.args.calls.now c.args.refused.now c.if-calls-refused.true)
