use Rattle.std.proofs.Common.{sym, ap, ◌∙◌, length, List}
use Rattle.tree_rules.specs.declared.machine.Open.{Open}
use Rattle.tree_rules.specs.Reading.{state, ended_in}
use Rattle.tree_reader.proofs.JudgeLemmas.{ended_next}
use Rattle.tree_reader.proofs.judge.judge_all.Goals as goal

pub returns-in-Ended : goal.returns-in-Ended
returns-in-Ended c =
    c.ended.ensures
    ∙ ap (λ (opens : List Open). ended_in (length c.args.src.now) c.loop-opens.mode opens) c.in-Ended.ensures.1
    ∙ sym (ended_next c.args.src.now c.loop-opens.at (state c.loop-opens.mode c.loop-opens.opens) c.in-Ended.ensures.0)
    ∙ c.loop-opens.invariant.same
