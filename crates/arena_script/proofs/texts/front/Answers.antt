use Rattle.std.proofs.Common.{arith, refl, sym, ◌∙◌}
use Rattle.arena_script.proofs.ThingLemmas.{holds}
use Rattle.arena_script.proofs.CostFacts.{not_given}
use Rattle.arena_script.proofs.TextActs.{front_puts, put_past, put_gives, put_gives_nothing}
use Rattle.arena_script.proofs.texts.front.Goals as goal

pub returns-then-len-ge-MOST_BYTES : goal.returns-then-len-ge-MOST_BYTES
returns-then-len-ge-MOST_BYTES g c =
    let h = holds c.requires c.args.name c.in-Ok.ensures in
    (put_past h c.length_rule.ensures (front_puts h c.args.byte (sym c.has_other.ensures ∙ c.if-has_other.false)) (omega (arith, c.len.ensures)), refl)

pub returns-in_err-push_byte_start_unchecked : goal.returns-in_err-push_byte_start_unchecked
returns-in_err-push_byte_start_unchecked g c =
    let h = holds c.requires c.args.name c.in-Ok.ensures in
    not_given c.from_residual.result c.from_residual.ensures.1
    (put_gives_nothing (record { stays = c.growth_rule.ensures.stays; grows = c.growth_rule.ensures.grows }) c.length_rule.ensures _ _ _ h
    c.known.ensures.state (front_puts h c.args.byte (sym c.has_other.ensures ∙ c.if-has_other.false)) (omega (arith, c.len.ensures))
    c.in_err-push_byte_start_unchecked.ensures)

pub returns : goal.returns
returns g c =
    let h = holds c.requires c.args.name c.in-Ok.ensures in
    put_gives (record { stays = c.growth_rule.ensures.stays; grows = c.growth_rule.ensures.grows }) c.length_rule.ensures _ _ _ h
    c.known.ensures.state (front_puts h c.args.byte (sym c.has_other.ensures ∙ c.if-has_other.false)) (omega (arith, c.len.ensures))
    c.in_ok-push_byte_start_unchecked.ensures
