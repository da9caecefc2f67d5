use Rattle.std.proofs.Common.{◌≡◌, ◌+◌, ◌*◌, ◌^◌, ◌≤◌, drop}
use Rattle.tree_rules.specs.Tokens.{value}
use Rattle.tree_reader.proofs.bytes.small_value.Given as goal

abbrev pub invariant-loop-d : goal.invariant-loop-d
invariant-loop-d l = record {
  same : value l.n (drop l.d-index l.digits) ≡ value 0 l.digits;
  small : l.n + 23 ≤ 23 * 10 ^ l.d-index;
}
