use Rattle.std.proofs.Common.{arith}
use Rattle.arena_script.proofs.ListActs.{push_grows, list_gives, list_gives_nothing}
use Rattle.arena_script.proofs.CostFacts.{not_given}
use Rattle.arena_script.proofs.ThingLemmas.{holds}
use Rattle.arena_script.proofs.lists.push.Goals as goal

pub returns-in_err-push : goal.returns-in_err-push
returns-in_err-push g c =
    let h = holds c.requires c.args.name c.in-Ok.ensures in
    not_given c.from_residual.result c.from_residual.ensures.1
    (list_gives_nothing (record { stays = c.growth_rule.ensures.stays; grows = c.growth_rule.ensures.grows })
    (record { keeps = c.growth_costs.ensures.keeps; asks = c.growth_costs.ensures.asks }) _ _ _ h c.known.ensures.state
    (push_grows h c.args.value (omega (arith, c.len.ensures))) c.in_err-push.ensures)

pub returns : goal.returns
returns g c =
    let h = holds c.requires c.args.name c.in-Ok.ensures in
    list_gives (record { stays = c.growth_rule.ensures.stays; grows = c.growth_rule.ensures.grows })
    (record { keeps = c.growth_costs.ensures.keeps; asks = c.growth_costs.ensures.asks }) _ _ _ h c.known.ensures.state
    (push_grows h c.args.value (omega (arith, c.len.ensures))) c.in_ok-push.ensures
