use Rattle.std.proofs.lemmas.Bool.Decides.{nat_tests}
use Rattle.std.proofs.Common.{arith}
use Rattle.arena_rules.proofs.RoundingLemmas.{layout_power}
use Rattle.plain_machine.proofs.ResizeLemmas.{shrink_moved}
use Rattle.plain_machine.proofs.state.PlainState.shrink_here.Goals as goal

pub set_cursor-requires : goal.set_cursor-requires
set_cursor-requires c = grind (arith, nat_tests, shrink_moved, layout_power)
