use Rattle.std.proofs.Common.{arith, sym}
use Rattle.arena_rules.proofs.RoundingLemmas.{max_power, layout_power, layout_small, power_small, pow_power}
use Rattle.arena_rules.proofs.SizeLemmas.{size_none, size_some, size_invalid}
use Rattle.arena_place.proofs.placing.chunk_data_size.Goals as goal

pub round_up_to_unchecked-requires-clause-power : goal.round_up_to_unchecked-requires-clause-power
round_up_to_unchecked-requires-clause-power c =
    rw c.max-align.ensures (max_power c.args.layout.align 16 (layout_power _ _ c.args.layout.valid) (pow_power 4 (omega arith)))

pub round_up_to_unchecked-requires-clause-fits : goal.round_up_to_unchecked-requires-clause-fits
round_up_to_unchecked-requires-clause-fits c =
    omega (arith, c.max-align.ensures, layout_small _ _ c.args.layout.valid, power_small _ (layout_power _ _ c.args.layout.valid))

pub returns-in-Some : goal.returns-in-Some
returns-in-Some c = size_some c.args.n c.args.layout.size c.args.layout.align c.max-wanted.result c.in-Some.size (cc)
    (sym c.in-Some.ensures.value) (rw (← c.max-align.ensures) (sym c.if-is_valid.ensures))

pub returns-in_default : goal.returns-in_default
returns-in_default c = size_invalid c.args.n c.args.layout.size c.args.layout.align c.max-wanted.result c.in-Some.size (cc)
    (sym c.in-Some.ensures.value) (rw (← c.max-align.ensures) (sym c.if-is_valid.ensures))

pub returns-in_default-2 : goal.returns-in_default-2
returns-in_default-2 c = size_none c.args.n c.args.layout.size c.args.layout.align c.max-wanted.result (cc) (sym c.in_default.ensures.value)
