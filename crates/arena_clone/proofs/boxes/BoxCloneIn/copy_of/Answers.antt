use Rattle.std.proofs.lemmas.Bool.Decides.{nat_tests}
use Rattle.std.proofs.Common.{arith}
use Rattle.std.proofs.lemmas.Result.{err_from_is_err_and}
use Rattle.arena_kinds.proofs.Layers.{makes_refused, makes_box}
use Rattle.arena_clone.proofs.boxes.BoxCloneIn.copy_of.Goals as goal

pub returns-in_err-copy : goal.returns-in_err-copy
returns-in_err-copy g c = grind (arith, nat_tests, err_from_is_err_and, makes_refused)

pub returns : goal.returns
returns g c = grind (arith, nat_tests, makes_box)
