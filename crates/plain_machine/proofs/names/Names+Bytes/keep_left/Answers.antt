use Rattle.std.proofs.lemmas.Bool.Decides.{nat_tests}
use Rattle.std.proofs.Common.{arith, rules}
use Rattle.std.proofs.lemmas.Map.Made.{filter_same_pairs}
use Rattle.plain_machine.proofs.LeftLemmas.{tree_left}
use Rattle.plain_machine.proofs.names.Names+Bytes.keep_left.Goals as goal

pub returns : goal.returns
returns c = grind (arith, nat_tests, filter_same_pairs, rules, tree_left)
