-- What a report says of its source, and the lines of reports.
use Rattle.std.specs.Prelude.{ℕ, ◌+◌, List, [], ◌∷◌, ◌++◌, map, codes, Option, None, Some, IfSome, Result, Ok, Err}
use Rattle.std.specs.List.{flat_map}
use Rattle.line_parts.specs.Numbers.{fields, with_feed}
use Rattle.tree_rules.specs.Report.{IsReport}
use Rattle.tree_rules.specs.declared.refused.Refused.{Refused as Reason}
use Rattle.tree_rules.specs.declared.refused.Refused.TheVariants as reason
use Rattle.tree_rules.specs.declared.finding.Finding.{Finding}
use Rattle.tree_rules.specs.declared.finding.FindKind.{FindKind}
use Rattle.tree_rules.specs.declared.finding.FindKind.TheVariants.{Undefined, Redefined, Shadowed}
use Rattle.lint_reports.specs.declared.report.FileReport.{FileReport}
use Rattle.lint_reports.specs.declared.report.FileReport.TheVariants.{Checked, Syntax, TooDeep, NumberTooBig, Full, Refused, OutOfMemory}

-- what a report says of the text: findings, or why it is refused; `None` if the arena or memory ran out
abbrev pub said : FileReport → Option (Result (List Finding) Reason)
said (Checked findings) = Some (Ok findings)
said (Syntax at) = Some (Err (reason.Syntax at))
said (TooDeep at) = Some (Err (reason.TooDeep at))
said (NumberTooBig at) = Some (Err (reason.NumberTooBig at))
said Full = None
said Refused = None
said OutOfMemory = None

-- what it says is the one report of these bytes
abbrev pub Reports : List ℕ → FileReport → Type 0
Reports bytes report = IfSome (said report) (IsReport bytes)

-- ---- Lines

abbrev pub kind_word : FindKind → List ℕ
kind_word Undefined = codes "undefined "
kind_word Redefined = codes "redefined "
kind_word Shadowed = codes "shadowed "

abbrev pub finding_line : Finding → List ℕ
finding_line finding = kind_word finding.kind ++ finding.name

-- a line for each finding, or one that says why there are none
abbrev pub report_lines : FileReport → List (List ℕ)
report_lines (Checked findings) = map finding_line findings
report_lines (Syntax at) = (codes "syntax error at" ++ fields (at ∷ [])) ∷ []
report_lines (TooDeep at) = (codes "too deep at" ++ fields (at ∷ [])) ∷ []
report_lines (NumberTooBig at) = (codes "number too big at" ++ fields (at ∷ [])) ∷ []
report_lines Full = codes "full" ∷ []
report_lines Refused = codes "refused" ∷ []
report_lines OutOfMemory = codes "out of memory" ∷ []

-- the lines of source number i
abbrev pub source_lines : ℕ → FileReport → List (List ℕ)
source_lines i report = (codes "source" ++ fields (i ∷ [])) ∷ report_lines report

-- the lines of reports, the first of which is of source number i
abbrev pub lines_from : ℕ → List FileReport → List (List ℕ)
lines_from i [] = []
lines_from i (report ∷ reports) = source_lines i report ++ lines_from (i + 1) reports

-- the text of the report of source number i
abbrev pub report_text : ℕ → FileReport → List ℕ
report_text i report = flat_map with_feed (source_lines i report)

abbrev pub text_of_reports : List FileReport → List ℕ
text_of_reports reports = flat_map with_feed (lines_from 0 reports)
