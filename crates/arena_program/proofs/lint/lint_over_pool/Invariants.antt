use Rattle.std.proofs.Common.{None}
use Rattle.arena_pool.specs.declared.kind.PoolKind.TheVariants.{Standard}
use Rattle.arena_program.proofs.lint.lint_over_pool.Given as goal

abbrev pub ghosts-lint_in_standard-L-Ledger : goal.ghosts-lint_in_standard-L-Ledger
ghosts-lint_in_standard-L-Ledger g a = record { name = a.blank.name; parts = a.blank.parts }

abbrev pub ghosts-lint_in_standard-L-PoolName : goal.ghosts-lint_in_standard-L-PoolName
ghosts-lint_in_standard-L-PoolName g a = record { kind = Standard; limit = None }
