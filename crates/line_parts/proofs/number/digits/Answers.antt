use Rattle.std.proofs.Common.{◌≡◌, ◌+◌, ◌*◌, ◌-◌, sym, ◌∙◌, arith, get_or}
use Rattle.line_parts.proofs.ReadingLemmas.{digits_read, digit_taken, too_great, stopped, ended}
use Rattle.line_parts.proofs.number.digits.Goals as goal

pub returns-then-not-is_ascii_digit : goal.returns-then-not-is_ascii_digit
returns-then-not-is_ascii_digit c = digits_read c.args.max c.args.n c.loop-i.number c.args.bytes.now _ (omega arith) c.requires.0
    c.loop-i.invariant.within (c.loop-i.invariant.is ∙ stopped c.args.bytes.now c.loop-i.number c.loop-i.i c.loop-i-test.true
    (sym c.if-not-is_ascii_digit.ensures.value))

pub returns-in_err-checked_mul : goal.returns-in_err-checked_mul
returns-in_err-checked_mul c =
    let large = c.in_err-checked_mul.ensures in
    rw c.from_residual.ensures (too_great c.args.max c.args.n c.loop-i.number c.loop-i.i c.args.bytes.now c.loop-i.invariant.is
    c.loop-i-test.true (sym c.if-not-is_ascii_digit.ensures.value) (omega arith))

pub returns-in_err-next : goal.returns-in_err-next
returns-in_err-next c =
    rw c.from_residual-in_err-next.ensures (too_great c.args.max c.args.n c.loop-i.number c.loop-i.i c.args.bytes.now
    c.loop-i.invariant.is c.loop-i-test.true (sym c.if-not-is_ascii_digit.ensures.value)
    (omega (arith, c.in_err-next.ensures, c.in_ok-checked_mul.ensures, c.from.ensures)))

pub returns-then-next-max : goal.returns-then-next-max
returns-then-next-max c =
    too_great c.args.max c.args.n c.loop-i.number c.loop-i.i c.args.bytes.now c.loop-i.invariant.is c.loop-i-test.true
    (sym c.if-not-is_ascii_digit.ensures.value) (omega (arith, c.in_ok-next.ensures, c.in_ok-checked_mul.ensures, c.from.ensures))

pub loop-i-preserved : goal.loop-i-preserved
loop-i-preserved c =
    let same : c.loop-i.number * 10 + (get_or c.args.bytes.now c.loop-i.i 0 - 48) ≡ c.in_ok-next.next =
    omega (arith, c.in_ok-next.ensures, c.in_ok-checked_mul.ensures, c.from.ensures) in
    record {
      is = c.loop-i.invariant.is ∙ rw same at (digit_taken c.args.bytes.now c.loop-i.number c.loop-i.i c.loop-i-test.true
          (sym c.if-not-is_ascii_digit.ensures.value));
      within = omega arith;
    }

pub returns : goal.returns
returns c = digits_read c.args.max c.args.n c.loop-i.number c.args.bytes.now _ (omega arith) c.requires.0 c.loop-i.invariant.within
    (c.loop-i.invariant.is ∙ ended c.args.bytes.now c.loop-i.number c.loop-i.i c.loop-i-test.false)
