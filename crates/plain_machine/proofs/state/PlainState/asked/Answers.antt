use Rattle.std.proofs.lemmas.Bool.Decides.{nat_tests}
use Rattle.std.proofs.Common.{arith}
use Rattle.arena_rules.specs.Search.{asked}
use Rattle.arena_rules.proofs.RoundingLemmas.{max_power, layout_power, pow_power}
use Rattle.arena_rules.proofs.SearchLemmas.{asked_above_is, asked_above-past_end}
use Rattle.plain_machine.proofs.state.PlainState.asked.Goals as goal

pub next_base-requires-clause-power : goal.next_base-requires-clause-power
next_base-requires-clause-power c =
    rw c.max.ensures (max_power c.args.layout.align 16 (layout_power _ _ c.args.layout.valid) (pow_power 4 (omega arith)))

pub returns-in-Some-clause-value : goal.returns-in-Some-clause-value
unfolding asked
returns-in-Some-clause-value c = grind (arith, nat_tests, asked_above_is)

pub returns-in-None-clause-value : goal.returns-in-None-clause-value
unfolding asked
returns-in-None-clause-value c = grind (arith, nat_tests, asked_above-past_end)
