use Rattle.std.proofs.lemmas.Bool.Decides.{nat_tests}
use Rattle.std.proofs.Common.{arith}
use Rattle.plain_machine.proofs.ResizeLemmas.{block_top, ends_within}
use Rattle.plain_machine.proofs.state.PlainState.grow_at_cursor.Goals as goal

pub returns-in-Some-place-clause-within : goal.returns-in-Some-place-clause-within
returns-in-Some-place-clause-within c = grind (arith, nat_tests, block_top, ends_within)
