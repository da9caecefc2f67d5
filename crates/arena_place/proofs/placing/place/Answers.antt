use Rattle.std.proofs.Common.{rules}
use Rattle.arena_rules.proofs.RoundingLemmas.{max_power, layout_power, min_align_power}
use Rattle.arena_rules.proofs.PlaceLemmas.{past_none}
use Rattle.arena_place.proofs.placing.place.Goals as goal

pub round_down_to-p-requires : goal.round_down_to-p-requires
round_down_to-p-requires c =
    rw c.align_with.ensures (max_power c.args.layout.align c.args.min_align (layout_power _ _ c.args.layout.valid)
    (min_align_power _ c.requires.min_align))

pub returns-in_err-top : goal.returns-in_err-top
returns-in_err-top c = search (rules, past_none)
