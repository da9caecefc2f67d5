use Rattle.std.proofs.lemmas.Bool.Decides.{nat_tests}
use Rattle.std.proofs.Common.{arith}
use Rattle.std.proofs.lemmas.Result.{on_ok_weaker}
use Rattle.script_lines.proofs.ScriptLemmas.{adds_last}
use Rattle.script_lines.proofs.parse.add.Goals as goal

pub returns : goal.returns
returns c = grind (arith, nat_tests, on_ok_weaker, adds_last)
