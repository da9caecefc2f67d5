use Rattle.arena_rules.specs.Rounding.{up, down}
use Rattle.arena_rules.proofs.RoundingLemmas.{power_positive}
use Rattle.arena_place.proofs.rounding.round_up_to_unchecked.Goals as goal

pub overflow_sub-divisor : goal.overflow_sub-divisor
overflow_sub-divisor c = power_positive c.args.divisor c.requires.power

pub returns : goal.returns
unfolding up down
returns c = c.round_down_to.ensures
