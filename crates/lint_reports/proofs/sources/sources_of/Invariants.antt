use Rattle.std.proofs.Common.{◌-◌, length}
use Rattle.lint_reports.proofs.SourceLemmas.{Cut}
use Rattle.lint_reports.proofs.sources.sources_of.Given as goal

abbrev pub invariant-lines : goal.invariant-lines
invariant-lines l = Cut l.bytes l.all.items l.rest l.seen

abbrev pub decreases-lines : goal.decreases-lines
decreases-lines l = length l.rest - l.seen
