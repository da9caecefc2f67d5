use Rattle.std.proofs.lemmas.Bool.Decides.{nat_tests}
use Rattle.std.proofs.Common.{arith}
use Rattle.tree_nodes.proofs.WalkLemmas.{list_len, only_some, first_held, first_in}
use Rattle.arena_tree.proofs.FoldRuleLemmas.{only_is}
use Rattle.arena_tree.proofs.fold.only_kid.Goals as goal

pub kids-list-requires : goal.kids-list-requires
kids-list-requires g c = c.requires.stands.1

pub get-requires-clause-held : goal.get-requires-clause-held
get-requires-clause-held g c = rw c.kids-list.ensures c.requires.stands.1

pub get-requires-clause-index : goal.get-requires-clause-index
get-requires-clause-index g c = grind (arith, nat_tests, list_len, only_some, first_held)

pub returns : goal.returns
returns g c = grind (arith, nat_tests, only_is, first_in)
