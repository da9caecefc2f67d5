use Rattle.std.proofs.Common.{◌≡◌, ◌-◌, ◌≤◌, length}
use Rattle.tree_reader.specs.Seen.{tokens_at}
use Rattle.tree_reader.proofs.token.begin_at.Given as goal

abbrev pub invariant-loop-here : goal.invariant-loop-here
invariant-loop-here l = record {
  behind : l.at ≤ l.here;
  within : l.here ≤ length l.src;
  same : tokens_at l.src l.at ≡ tokens_at l.src l.here;
}

abbrev pub decreases-loop-here : goal.decreases-loop-here
decreases-loop-here l = length l.src - l.here
