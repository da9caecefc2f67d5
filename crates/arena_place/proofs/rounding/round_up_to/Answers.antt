use Rattle.std.proofs.Common.{arith, ◌∙◌, ap, ℕ, ◌/◌, ◌*◌}
use Rattle.arena_rules.specs.Rounding.{up, down}
use Rattle.arena_rules.proofs.RoundingLemmas.{power_positive}
use Rattle.arena_place.proofs.rounding.round_up_to.Goals as goal

pub overflow_sub-divisor : goal.overflow_sub-divisor
overflow_sub-divisor c = power_positive c.args.divisor c.requires

pub returns-in-Some : goal.returns-in-Some
unfolding up down
returns-in-Some c = (
  omega (arith, c.in-Some.ensures),
  c.round_down_to.ensures
      ∙ ap (λ (n : ℕ). n / c.args.divisor * c.args.divisor) c.in-Some.ensures.1,
)
