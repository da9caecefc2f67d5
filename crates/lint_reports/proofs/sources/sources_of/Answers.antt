use Rattle.std.proofs.lemmas.Bool.Decides.{nat_tests}
use Rattle.std.proofs.Common.{arith, sym, rules}
use Rattle.lint_reports.proofs.SourceLemmas.{cut_on, cut_last, cut_mark, cut_line, seen_within}
use Rattle.lint_reports.proofs.sources.sources_of.Goals as goal

pub returns-then-start-rest : goal.returns-then-start-rest
returns-then-start-rest c = grind (arith, nat_tests, cut_on, cut_last)

pub overflow_add-end : goal.overflow_add-end
overflow_add-end c =
    let cut = cut_on _ _ _ c.lines.seen c.passed_len.result c.lines.invariant (rw c.after.ensures at c.passed_len.ensures) in
    let within = seen_within c.args.bytes.now c.lines.all.items c.lines.rest.now _ cut
    c.first_line-line.result.now (rw c.after-in-lines.ensures at c.first_line-line.ensures) in
    search rules

pub lines-preserved-then-is_mark : goal.lines-preserved-then-is_mark
lines-preserved-then-is_mark c =
    let cut = cut_on _ _ _ c.lines.seen c.passed_len.result c.lines.invariant (rw c.after.ensures at c.passed_len.ensures) in
    rw c.after-rest.ensures (
    cut_mark c.args.bytes.now c.lines.all.items c.lines.rest.now _ cut c.first_line-line.result.now
    (rw c.after-in-lines.ensures at c.first_line-line.ensures) c.add-then-is_mark.new.all.items c.if-start-rest.false
    (sym c.if-is_mark.ensures) c.in_ok-add-2.ensures
    )

pub lines-preserved : goal.lines-preserved
lines-preserved c =
    let cut = cut_on _ _ _ c.lines.seen c.passed_len.result c.lines.invariant (rw c.after.ensures at c.passed_len.ensures) in
    cut_line c.args.bytes.now c.lines.all.items c.lines.rest.now _ cut
    c.first_line-line.result.now (rw c.after-in-lines.ensures at c.first_line-line.ensures) c.if-start-rest.false (sym c.if-is_mark.ensures)
