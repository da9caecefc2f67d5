use Rattle.std.proofs.lemmas.Bool.Decides.{nat_tests}
use Rattle.std.proofs.Common.{arith}
use Rattle.script_lines.proofs.ScriptLemmas.{takes_script, takes_command, refuses_first, refuses_read}
use Rattle.script_lines.proofs.parse.ScriptLinesLineReaderScript.take_line.Goals as goal

pub returns-in-Some : goal.returns-in-Some
returns-in-Some c = grind (arith, nat_tests, takes_script)

pub returns-then-is_empty : goal.returns-then-is_empty
returns-then-is_empty c = grind (arith, nat_tests, refuses_first)

pub returns-in_default-2 : goal.returns-in_default-2
returns-in_default-2 c = grind (arith, nat_tests, refuses_read)

pub returns-then-not-at_line_end-2 : goal.returns-then-not-at_line_end-2
returns-then-not-at_line_end-2 c = grind (arith, nat_tests, refuses_read)

pub returns : goal.returns
returns c = grind (arith, nat_tests, takes_command)
