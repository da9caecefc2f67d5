use Rattle.std.proofs.Common.{arith}
use Rattle.arena_rules.proofs.RoundingLemmas.{layout_power, power_positive}
use Rattle.arena_place.proofs.placing.align_with.Goals as goal

pub returns-then-min_align-eq1 : goal.returns-then-min_align-eq1
returns-then-min_align-eq1 c = omega (arith, power_positive _ (layout_power _ _ c.args.layout.valid), c.if-min_align-eq1.true)
