use Rattle.script_rules.specs.Outcomes.{told}
use Rattle.script_lines.proofs.OutcomeLemmas.{outcome_more}
use Rattle.script_lines.proofs.outcomes.put_outcomes.Goals as goal

pub loop-i-preserved : goal.loop-i-preserved
loop-i-preserved c =
    outcome_more told c.args.out.now.items c.loop-i.out.items _ c.args.outcomes.now c.loop-i.i c.index-outcomes-i.result
    c.loop-i-test.true c.index-outcomes-i.is c.loop-i.invariant c.in_default.ensures.ok
