use Rattle.std.proofs.Common.{sym}
use Rattle.line_parts.proofs.ReadingLemmas.{number_of_none, number_zero, number_no_digit, digit_number}
use Rattle.line_parts.proofs.number.number.Goals as goal

pub returns-in_err-first : goal.returns-in_err-first
returns-in_err-first c = rw c.from_residual.ensures (number_of_none c.args.max c.args.bytes.now c.in_err-first.ensures.cases)

pub returns-then-first-eq48 : goal.returns-then-first-eq48
returns-then-first-eq48 c = rw (c.in_ok-first.ensures.cases.0, c.if-first-eq48.true) (number_zero c.args.max c.in_ok-first.rest.now)

pub returns-then-not-is_ascii_digit : goal.returns-then-not-is_ascii_digit
returns-then-not-is_ascii_digit c =
    rw c.in_ok-first.ensures.cases.0 (number_no_digit c.args.max _ c.in_ok-first.rest.now (sym c.if-not-is_ascii_digit.ensures.value))

pub returns : goal.returns
returns c = rw c.in_ok-first.ensures.cases.0
    (rw (c.from.ensures, digit_number c.in_ok-first.first.now (sym c.if-not-is_ascii_digit.ensures.value)) at c.digits.ensures)
