use Rattle.std.proofs.Common.{◌-◌, ◌∙◌, sym, arith}
use Rattle.script_rules.specs.Objects.{has}
use Rattle.plain_scripts.proofs.LoopLemmas.{highest_here}
use Rattle.plain_scripts.proofs.printed.highest.Goals as goal

pub returns-then-has_byte-clause-value : goal.returns-then-has_byte-clause-value
returns-then-has_byte-clause-value c =
    sym (highest_here (has c.args.bits.now) (c.loop-k.k - 1) c.loop-k.k (omega (arith, c.loop-k-test.true)) (sym c.if-has_byte.ensures))
    ∙ c.loop-k.invariant
