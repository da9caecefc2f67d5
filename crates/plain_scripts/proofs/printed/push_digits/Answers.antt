use Rattle.std.proofs.Common.{◌-◌, ◌∙◌, arith}
use Rattle.script_rules.specs.Objects.{has}
use Rattle.plain_scripts.proofs.LoopLemmas.{digits_more}
use Rattle.plain_scripts.proofs.printed.push_digits.Goals as goal

pub loop-place-preserved : goal.loop-place-preserved
loop-place-preserved c =
    rw (c.in_ok-push.ensures.ok, c.digit.ensures, c.has.ensures)
    (digits_more c.loop-place.text (has c.args.bits.now) c.args.from (c.loop-place.place - 1) c.loop-place.place
    (omega (arith, c.loop-place-test.true)) ∙ c.loop-place.invariant)
