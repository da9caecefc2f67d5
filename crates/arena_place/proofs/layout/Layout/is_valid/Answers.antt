use Rattle.std.proofs.Common.{arith, sym, ◌∙◌}
use Rattle.std.proofs.lemmas.Bool.Decides.{nat_tests}
use Rattle.arena_rules.proofs.RoundingLemmas.{power_by_bits, not_layout}
use Rattle.arena_place.proofs.layout.Layout.is_valid.Goals as goal

pub returns-then-not-is_power_of_two : goal.returns-then-not-is_power_of_two
returns-then-not-is_power_of_two c = let same = power_by_bits c.args.align (omega arith) in
    grind (arith, nat_tests, same, c.if-not-is_power_of_two.ensures)

pub round_up_to-requires : goal.round_up_to-requires
round_up_to-requires c = sym (c.if-not-is_power_of_two.ensures ∙ power_by_bits c.args.align (omega arith))

pub returns-in-Some : goal.returns-in-Some
returns-in-Some c = let same = power_by_bits c.args.align (omega arith) in
    grind (arith, nat_tests, same, c.if-not-is_power_of_two.ensures, c.in-Some.ensures.1)

pub returns-in-None : goal.returns-in-None
returns-in-None c = not_layout c.args.size c.args.align c.in-None.ensures
