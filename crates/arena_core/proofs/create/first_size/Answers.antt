use Rattle.std.proofs.lemmas.Bool.Decides.{nat_tests}
use Rattle.std.proofs.Common.{arith}
use Rattle.arena_core.proofs.CreatedLemmas.{first_chunk, no_chunk}
use Rattle.arena_core.proofs.create.first_size.Goals as goal

pub returns-in_err-layout-clause-value : goal.returns-in_err-layout-clause-value
returns-in_err-layout-clause-value c = grind (arith, nat_tests, no_chunk)

pub returns-clause-value : goal.returns-clause-value
returns-clause-value c = grind (arith, nat_tests, first_chunk)
