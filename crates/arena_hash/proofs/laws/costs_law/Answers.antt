use Rattle.std.proofs.lemmas.Bool.Decides.{nat_tests}
use Rattle.std.proofs.Common.{arith}
use Rattle.arena_hash.proofs.CostLemmas.{insert-most}
use Rattle.arena_hash.proofs.laws.costs_law.Goals as goal

pub returns-clause-inserts : goal.returns-clause-inserts
returns-clause-inserts g c = grind (arith, nat_tests, insert-most)

pub returns-clause-set_inserts : goal.returns-clause-set_inserts
returns-clause-set_inserts g c = grind (arith, nat_tests, insert-most)

pub returns-clause-others : goal.returns-clause-others
returns-clause-others g c = λ old new m w is becomes. omega (arith, becomes.costs.bytes, becomes.costs.credit)
