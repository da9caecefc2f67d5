use Rattle.std.proofs.Common.{None}
use Rattle.lint_tests.proofs.tests.linter.over.linted_over.Given as goal

abbrev pub ghosts-lint_named-L-Ledger : goal.ghosts-lint_named-L-Ledger
ghosts-lint_named-L-Ledger g a = record { name = a.blank.name; parts = a.blank.parts }

abbrev pub ghosts-lint_named-L-PoolName : goal.ghosts-lint_named-L-PoolName
ghosts-lint_named-L-PoolName g a = record { kind = a.over.0; limit = None }
