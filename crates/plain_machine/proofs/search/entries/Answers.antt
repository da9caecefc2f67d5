use Rattle.std.proofs.lemmas.Bool.Decides.{nat_tests}
use Rattle.std.proofs.Common.{arith}
use Rattle.std.proofs.lemmas.Grind.{common_steps}
use Rattle.arena_rules.proofs.SearchLemmas.{entries_pass, entries_next, entries_end}
use Rattle.plain_machine.proofs.search.entries.Goals as goal
use Rattle.plain_machine.proofs.search.entries.Goals.{in-Some+in_ok-push, in_default}

pub loop-tried-preserved : goal.loop-tried-preserved
loop-tried-preserved c = grind (arith, nat_tests, in-Some+in_ok-push, entries_next, common_steps, in_default, entries_pass)

pub returns : goal.returns
returns c = grind (arith, nat_tests, entries_end, common_steps)
