use Rattle.std.proofs.lemmas.Bool.Decides.{nat_tests}
use Rattle.std.proofs.Common.{arith}
use Rattle.std.proofs.lemmas.Result.{err_from_is_err_and}
use Rattle.arena_core.proofs.AnswerLemmas.{uncounted_err}
use Rattle.arena_core.proofs.arena.Arena.grow.Goals as goal

pub returns-in_err-grown : goal.returns-in_err-grown
returns-in_err-grown g c = grind (arith, nat_tests, err_from_is_err_and, uncounted_err)
