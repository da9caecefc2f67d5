use Rattle.std.proofs.lemmas.Bool.Decides.{nat_tests}
use Rattle.std.proofs.Common.{arith}
use Rattle.arena_tree.proofs.ParseLemmas.{judged_parses}
use Rattle.arena_tree.proofs.tree.Tree.parse.Goals as goal

pub returns-in-None-clause-parses : goal.returns-in-None-clause-parses
returns-in-None-clause-parses g c = grind (arith, nat_tests, judged_parses)
