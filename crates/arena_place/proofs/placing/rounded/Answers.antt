use Rattle.std.proofs.Common.{ℕ, ◌+◌, ◌-◌, ap, sym, ◌∙◌, arith, Some}
use Rattle.arena_rules.proofs.RoundingLemmas.{pow_power, up_ge, up_close}
use Rattle.arena_rules.proofs.SizeLemmas.{rounded_small, next_power}
use Rattle.arena_place.proofs.placing.rounded.Goals as goal

pub returns-then-wanted-lt-TYPICAL_PAGE_SIZE : goal.returns-then-wanted-lt-TYPICAL_PAGE_SIZE
returns-then-wanted-lt-TYPICAL_PAGE_SIZE c =
    let power = c.next_power_of_two.ensures in
    record {
      value = sym (rounded_small c.args.wanted c.if-wanted-lt-TYPICAL_PAGE_SIZE.true
          ∙ ap (λ (p : ℕ). Some (p - 64)) (sym (next_power (c.args.wanted + 64) c.next_power_of_two.result (omega arith)
          (power.power, power.lower_bound, power.upper_bound))));
      small = omega arith;
    }

pub round_up_to_unchecked-requires-clause-power : goal.round_up_to_unchecked-requires-clause-power
round_up_to_unchecked-requires-clause-power c = pow_power 12 (omega arith)

pub overflow_sub-result-then-wanted-le-LARGEST_WANTED :
    goal.overflow_sub-result-then-wanted-le-LARGEST_WANTED
overflow_sub-result-then-wanted-le-LARGEST_WANTED c = omega (arith, up_ge (c.args.wanted + 64) 4096 (omega arith))

pub returns-then-wanted-le-LARGEST_WANTED-clause-small :
    goal.returns-then-wanted-le-LARGEST_WANTED-clause-small
returns-then-wanted-le-LARGEST_WANTED-clause-small c = omega (arith, up_close (c.args.wanted + 64) 4096 (omega arith))
