-- How many bytes are enough for the lines of findings.
use Rattle.std.specs.Prelude.{ℕ, ◌+◌, List, length}
use Rattle.line_parts.specs.Room.{rooms}
use Rattle.tree_rules.specs.declared.finding.Finding.{Finding}
use Rattle.line_parts.specs.Numbers.{with_feed}
use Rattle.lint_reports.specs.Reports.{finding_line}
use Rattle.lint_reports.specs.declared.report.FileReport.{FileReport}
use Rattle.lint_reports.specs.declared.report.FileReport.TheVariants.{Checked, Syntax, TooDeep, NumberTooBig, Full, Refused, OutOfMemory}

-- 11 bytes are the word for a kind, a space and a line feed
abbrev pub finding_room : Finding → ℕ
finding_room finding = length finding.name + 11

-- the rooms of all that a report has found
abbrev pub findings_room : FileReport → ℕ
findings_room (Checked findings) = rooms finding_room findings
findings_room (Syntax at) = 0
findings_room (TooDeep at) = 0
findings_room (NumberTooBig at) = 0
findings_room Full = 0
findings_room Refused = 0
findings_room OutOfMemory = 0

-- a finding's line with its line feed
abbrev pub fed_finding : Finding → List ℕ
fed_finding finding = with_feed (finding_line finding)
