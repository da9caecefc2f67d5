use Rattle.std.proofs.lemmas.Bool.Decides.{nat_tests}
use Rattle.std.proofs.Common.{arith}
use Rattle.lint_reports.proofs.ReportLemmas.{findings_put}
use Rattle.arena_lint.proofs.lint.lint_text.Goals as goal

pub returns-in_default-lint_with-clause-text : goal.returns-in_default-lint_with-clause-text
returns-in_default-lint_with-clause-text g c = grind (arith, nat_tests, findings_put)
