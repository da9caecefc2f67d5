use Rattle.std.proofs.lemmas.Bool.Decides.{nat_tests}
use Rattle.std.proofs.Common.{arith}
use Rattle.std.proofs.lemmas.Result.{on_ok_weaker}
use Rattle.line_parts.proofs.NumberLemmas.{number-decimal}
use Rattle.arena_tree.proofs.print.put_number.Goals as goal

pub returns : goal.returns
returns c = grind (arith, nat_tests, on_ok_weaker, number-decimal)
