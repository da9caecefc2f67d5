use Rattle.std.proofs.Common.{◌≡◌, ◌+◌, ◌-◌, ◌≤◌, length, drop}
use Rattle.tree_rules.specs.Tokens.{is_digit, run}
use Rattle.tree_reader.proofs.bytes.digits_end.Given as goal

abbrev pub invariant-loop-end : goal.invariant-loop-end
invariant-loop-end l = record {
  within : l.end ≤ length l.src;
  run_is : l.end + length (run is_digit (drop l.end l.src)) ≡ l.at + length (run is_digit (drop l.at l.src));
}

abbrev pub decreases-loop-end : goal.decreases-loop-end
decreases-loop-end l = length l.src - l.end
