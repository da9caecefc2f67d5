use Rattle.std.proofs.Common.{◌≡◌, take}
use Rattle.lint_tests.proofs.tests.linter.over.owned.Given as goal

abbrev pub invariant-loop-source : goal.invariant-loop-source
invariant-loop-source l = l.all.items ≡ take l.source-index l.sources
