use Rattle.std.proofs.lemmas.Bool.Decides.{nat_tests}
use Rattle.std.proofs.Common.{arith}
use Rattle.std.proofs.lemmas.List.{take_all}
use Rattle.lint_reports.proofs.SourceLemmas.{first_unfed}
use Rattle.lint_reports.proofs.sources.first_line.Goals as goal

pub returns-else-n-bytes : goal.returns-else-n-bytes
returns-else-n-bytes c = grind (arith, nat_tests, first_unfed, take_all)
