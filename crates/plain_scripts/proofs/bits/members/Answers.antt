use Rattle.std.proofs.lemmas.Bool.Decides.{nat_tests}
use Rattle.std.proofs.Common.{arith, append_assoc, append-nil}
use Rattle.std.proofs.lemmas.Grind.{common_steps}
use Rattle.plain_scripts.proofs.LoopLemmas.{members_with, members_none}
use Rattle.plain_scripts.proofs.bits.members.Goals as goal

pub loop-bit-preserved : goal.loop-bit-preserved
loop-bit-preserved c = grind (arith, nat_tests, common_steps, append_assoc, members_with)

pub returns : goal.returns
returns c = grind (arith, nat_tests, append-nil, members_none)
