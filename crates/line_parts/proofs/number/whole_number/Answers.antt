use Rattle.line_parts.proofs.ReadingLemmas.{no_whole_number, more_than_number}
use Rattle.line_parts.proofs.number.whole_number.Goals as goal

pub returns-in_err-n : goal.returns-in_err-n
returns-in_err-n c = rw c.from_residual.ensures (no_whole_number c.args.max c.args.bytes.now c.in_err-n.ensures)

pub returns-then-not-is_empty : goal.returns-then-not-is_empty
returns-then-not-is_empty c = more_than_number c.args.max c.args.bytes.now c.in_ok-n.n c.in_ok-n.rest.now c.in_ok-n.ensures
    c.if-not-is_empty.ensures
