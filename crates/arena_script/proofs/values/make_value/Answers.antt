use Rattle.std.proofs.Common.{refl, ◌∙◌, sym}
use Rattle.arena_script.proofs.CostFacts.{not_given}
use Rattle.arena_script.proofs.ValueActs.{is_none, made_given, made_gives, made_gives_nothing}
use Rattle.arena_script.proofs.values.make_value.Goals as goal

pub returns-in_err-value : goal.returns-in_err-value
returns-in_err-value g c =
    let none = sym c.get.ensures ∙ is_none c.get.result (sym c.if-is_some.ensures) in
    not_given c.from_residual.result c.from_residual.ensures.1
    (made_gives_nothing refl none c.known.ensures.state (made_given c.args.things.now c.args.a.now.memory c.args.name c.args.value none)
    refl c.in_err-value.ensures)

pub returns : goal.returns
returns g c =
    let none = sym c.get.ensures ∙ is_none c.get.result (sym c.if-is_some.ensures) in
    made_gives refl none c.known.ensures.state (made_given c.args.things.now c.args.a.now.memory c.args.name c.args.value none)
    refl c.in_ok-value.ensures
