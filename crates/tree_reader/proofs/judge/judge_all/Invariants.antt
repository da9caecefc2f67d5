use Rattle.std.proofs.Common.{◌≡◌, ◌-◌, ◌≤◌, length}
use Rattle.tree_rules.specs.Reading.{state, refusal_from, refusal_of}
use Rattle.tree_reader.specs.Seen.{tokens_at}
use Rattle.tree_reader.proofs.judge.judge_all.Given as goal

abbrev pub invariant-loop-opens : goal.invariant-loop-opens
invariant-loop-opens l = record {
  within : l.at ≤ length l.src;
  same : refusal_from (length l.src) (state l.mode l.opens) (tokens_at l.src l.at) ≡ refusal_of l.src;
}

abbrev pub decreases-loop-opens : goal.decreases-loop-opens
decreases-loop-opens l = length l.src - l.at
