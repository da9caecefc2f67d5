use Rattle.std.proofs.Common.{◌≡◌, subst, arith}
use Rattle.std.proofs.lemmas.Grind.{common_steps}
use Rattle.arena_rules.specs.State.{IsValid}
use Rattle.arena_rules.specs.Search.{place}
use Rattle.arena_rules.proofs.RoundingLemmas.{layout_power}
use Rattle.plain_machine.proofs.ResizeLemmas.{place_moved, place_within}
use Rattle.plain_machine.proofs.state.PlainState.place.Goals as goal

pub returns-clause-moved : goal.returns-clause-moved
returns-clause-moved c =
    let found : c.place.result ≡ place c.args.self.now c.args.layout.size c.args.layout.align = grind (arith, common_steps) in
    place_moved c.args.self.now c.args.layout.size c.args.layout.align c.place.result (subst IsValid c.self.view_is c.self.invariant)
    (layout_power _ _ c.args.layout.valid) found

pub returns-clause-within : goal.returns-clause-within
returns-clause-within c =
    let found : c.place.result ≡ place c.args.self.now c.args.layout.size c.args.layout.align = grind (arith, common_steps) in
    place_within c.args.self.now c.args.layout.size c.args.layout.align c.place.result (subst IsValid c.self.view_is c.self.invariant)
    (layout_power _ _ c.args.layout.valid) found
