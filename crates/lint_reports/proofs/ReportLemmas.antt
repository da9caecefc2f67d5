-- Lines of findings and of reports, one after another.
use Rattle.std.proofs.lemmas.Bool.Decides.{nat_tests}
use Rattle.std.proofs.Common.{arith, ◌≡◌, ℕ, ◌+◌, List, [], ◌∷◌, ◌++◌, map, sym, ap, ◌∙◌, append_assoc, codes}
use Rattle.std.specs.List.{flat_map}
use Rattle.std.proofs.lemmas.List.{append-nil}
use Rattle.std.proofs.lemmas.Grind.{flat_map-append}
use Rattle.std.proofs.lemmas.List.Folds.{flat_map-map}
use Rattle.line_parts.specs.Numbers.{fields, with_feed}
use Rattle.tree_rules.specs.declared.finding.Finding.{Finding}
use Rattle.lint_reports.specs.Reports.{finding_line, report_text, source_lines, lines_from}
use Rattle.lint_reports.specs.Room.{fed_finding}
use Rattle.lint_reports.specs.declared.report.FileReport.{FileReport}
use Rattle.lint_reports.specs.declared.report.FileReport.TheVariants.{Checked}

-- ---- A line

-- two parts and a line feed were appended
pub line_put : (old a b new first second : List ℕ) → a ≡ old ++ first → b ≡ a ++ second → new ≡ b ++ 10 ∷ []
    → new ≡ old ++ with_feed (first ++ second)
line_put old a b new first second on_a on_b on_new = grind (arith, nat_tests, append_assoc)

-- it is the only one
pub only_line : (old new line : List ℕ) → new ≡ old ++ with_feed line → new ≡ old ++ flat_map with_feed (line ∷ [])
only_line old new line put = put ∙ ap (λ xs. old ++ xs) (sym (append-nil (with_feed line)))

-- ---- Findings

pub finding_lines : (findings : List Finding) → flat_map fed_finding findings ≡ flat_map with_feed (map finding_line findings)
finding_lines findings = sym (flat_map-map with_feed finding_line findings)

-- findings behind the text of a report of none
pub findings_put : (i : ℕ) (findings : List Finding)
    → report_text i (Checked []) ++ flat_map fed_finding findings ≡ report_text i (Checked findings)
findings_put i findings = let source = with_feed (codes "source" ++ fields (i ∷ [])) in
    append_assoc source [] (flat_map fed_finding findings) ∙ ap (λ xs. source ++ xs) (finding_lines findings)

-- ---- Reports

-- the lines of a report and of those after it
pub reports_more : (i : ℕ) (report : FileReport) (reports : List FileReport)
    → flat_map with_feed (lines_from i (report ∷ reports)) ≡ report_text i report ++ flat_map with_feed (lines_from (i + 1) reports)
reports_more i report reports = flat_map-append with_feed (source_lines i report) (lines_from (i + 1) reports)
