use Rattle.std.proofs.Common.{length}
use Rattle.line_parts.proofs.LineLemmas.{Progress}
use Rattle.line_parts.proofs.lines.read_lines.Given as goal

abbrev pub invariant-lines : goal.invariant-lines
invariant-lines g l = Progress g.R.LineReader.are l.bytes l.rest l.all.items l.before

abbrev pub decreases-lines : goal.decreases-lines
decreases-lines g l = length l.rest
