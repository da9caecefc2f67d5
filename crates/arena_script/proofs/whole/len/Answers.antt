use Rattle.std.proofs.lemmas.Bool.Decides.{nat_tests}
use Rattle.std.proofs.Common.{arith}
use Rattle.arena_script.proofs.ThingLemmas.{holds}
use Rattle.arena_script.proofs.WholeActs.{text_len}
use Rattle.arena_script.proofs.whole.len.Goals as goal

pub returns-in-Some-Text : goal.returns-in-Some-Text
returns-in-Some-Text c = λ a are. grind (arith, nat_tests, holds, text_len, are)
