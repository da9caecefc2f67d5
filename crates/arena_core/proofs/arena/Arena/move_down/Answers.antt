use Rattle.std.proofs.lemmas.Bool.Decides.{nat_tests}
use Rattle.std.proofs.Common.{arith}
use Rattle.arena_core.proofs.StoredLemmas.{start_stored}
use Rattle.arena_core.proofs.arena.Arena.move_down.Goals as goal

pub is_untouched-requires : goal.is_untouched-requires
is_untouched-requires g c = grind (arith, nat_tests, start_stored)
