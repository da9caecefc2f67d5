use Rattle.arena_script.proofs.CopyActs.{list_copy_gives, list_copy_gives_nothing}
use Rattle.arena_script.proofs.CostFacts.{not_given}
use Rattle.arena_script.proofs.ThingLemmas.{holds}
use Rattle.arena_script.proofs.lists.copied.Goals as goal

pub returns-in_err-copy : goal.returns-in_err-copy
returns-in_err-copy g c = λ things name are found none. not_given c.from_residual.result c.from_residual.ensures.1
    (list_copy_gives_nothing (record { stays = c.growth_rule.ensures.stays; grows = c.growth_rule.ensures.grows }) _ _ _
    (holds are name found) none c.known.ensures.state c.in_err-copy.ensures.makes)

pub returns : goal.returns
returns g c = λ things name are found none.
    list_copy_gives (record { stays = c.growth_rule.ensures.stays; grows = c.growth_rule.ensures.grows }) _ _ _
    (holds are name found) none c.known.ensures.state c.in_ok-copy.ensures.makes
