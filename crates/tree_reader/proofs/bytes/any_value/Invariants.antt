use Rattle.std.proofs.Common.{◌≡◌, drop}
use Rattle.tree_rules.specs.Tokens.{value}
use Rattle.tree_reader.proofs.bytes.any_value.Given as goal

abbrev pub invariant-loop-d : goal.invariant-loop-d
invariant-loop-d l = value l.n (drop l.d-index l.digits) ≡ value 0 l.digits
