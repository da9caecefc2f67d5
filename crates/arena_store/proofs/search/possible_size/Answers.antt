use Rattle.std.proofs.lemmas.Bool.Decides.{nat_tests}
use Rattle.std.proofs.Common.{arith}
use Rattle.arena_rules.proofs.SearchLemmas.{possible_some, possible_over, possible_none, size_valid}
use Rattle.arena_store.proofs.search.possible_size.Goals as goal

pub returns-in-Some-clause-value : goal.returns-in-Some-clause-value
returns-in-Some-clause-value c = grind (arith, nat_tests, possible_some)

pub returns-in-Some-clause-fits : goal.returns-in-Some-clause-fits
returns-in-Some-clause-fits c = size_valid c.args.tried c.args.layout.size c.args.layout.align c.in-Some.size c.in-Some.ensures

pub returns-in_default-clause-value : goal.returns-in_default-clause-value
returns-in_default-clause-value c = grind (arith, nat_tests, possible_over)

pub returns-in_default-2-clause-value : goal.returns-in_default-2-clause-value
returns-in_default-2-clause-value c = grind (arith, nat_tests, possible_over)

pub returns-in_default-3-clause-value : goal.returns-in_default-3-clause-value
returns-in_default-3-clause-value c = grind (arith, nat_tests, possible_none)
