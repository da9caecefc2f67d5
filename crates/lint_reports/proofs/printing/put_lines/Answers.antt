use Rattle.std.proofs.Common.{[], ◌∷◌, ◌++◌, codes}
use Rattle.line_parts.specs.Numbers.{fields}
use Rattle.lint_reports.proofs.ReportLemmas.{only_line}
use Rattle.lint_reports.proofs.printing.put_lines.Goals as goal

pub returns-in-Syntax : goal.returns-in-Syntax
returns-in-Syntax c = rw c.in-Syntax.is
    (only_line c.args.out.now.items c.put_at.new.out.items (codes "syntax error at" ++ fields (c.in-Syntax.at ∷ []))
    c.put_at.ensures.items)

pub returns-in-TooDeep : goal.returns-in-TooDeep
returns-in-TooDeep c = rw c.in-TooDeep.is
    (only_line c.args.out.now.items c.put_at-in-TooDeep.new.out.items (codes "too deep at" ++ fields (c.in-TooDeep.at ∷ []))
    c.put_at-in-TooDeep.ensures.items)
