use Rattle.std.proofs.Common.{Ok, Err}
use Rattle.std.proofs.lemmas.Result.{err_from_is_err_and}
use Rattle.script_lines.proofs.CutLemmas.{read_together, first_cause}
use Rattle.script_lines.proofs.cutting.join_parts.Goals as goal

pub returns-in_err-scripts-clause-refused : goal.returns-in_err-scripts-clause-refused
returns-in_err-scripts-clause-refused c =
    let e = err_from_is_err_and c.from_residual.result c.from_residual.ensures.1 in
    rw (e.1, e.2) (first_cause c.args.bytes.now c.args.at c.requires.cut c.in_err-scripts.field-0.0 (rw c.in_err-scripts.was at c.requires.first))

pub returns-in-Ok-append-clause-scripts : goal.returns-in-Ok-append-clause-scripts
returns-in-Ok-append-clause-scripts c =
    rw c.in-Ok-append.ensures.items (
    read_together c.args.bytes.now c.args.at c.requires.cut (Ok c.in_ok-scripts.scripts.items) (Ok c.in-Ok.more.items)
    (rw c.in_ok-scripts.was at c.requires.first) (rw c.in-Ok.is at c.requires.rest)
    )

pub returns-in-BadLine-clause-refused : goal.returns-in-BadLine-clause-refused
returns-in-BadLine-clause-refused c =
    rw c.line_count.ensures (
    read_together c.args.bytes.now c.args.at c.requires.cut (Ok c.in_ok-scripts.scripts.items) (Err c.in-BadLine.n)
    (rw c.in_ok-scripts.was at c.requires.first) (rw c.in-BadLine.is at (rw c.in-Err.is at c.requires.rest))
    )
