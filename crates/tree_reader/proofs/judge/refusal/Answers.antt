use Rattle.std.proofs.Common.{subst, sym}
use Rattle.tree_rules.specs.Refusals.{IsReading}
use Rattle.tree_reader.proofs.judge.refusal.Goals as goal

pub returns-clause-read : goal.returns-clause-read
returns-clause-read c = subst (IsReading c.args.src.now) (sym c.judge_all.ensures) (c.machine.ensures.read c.args.src.now)
