use Rattle.std.proofs.Common.{arith}
use Rattle.arena_rules.proofs.RoundingLemmas.{mask_down, power_positive}
use Rattle.arena_place.proofs.rounding.round_down_to.Goals as goal

pub overflow_sub-result : goal.overflow_sub-result
overflow_sub-result c = power_positive c.args.divisor c.requires

pub returns : goal.returns
returns c = mask_down c.args.n c.args.divisor c.requires (omega arith)
