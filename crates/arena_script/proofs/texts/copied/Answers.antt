use Rattle.std.proofs.Common.{refl}
use Rattle.arena_script.proofs.ThingLemmas.{holds}
use Rattle.arena_script.proofs.CostFacts.{not_given}
use Rattle.arena_script.proofs.TextCopies.{text_copy_gives, text_copy_gives_nothing}
use Rattle.arena_script.proofs.texts.copied.Goals as goal

pub clone_within-requires-clause-held : goal.clone_within-requires-clause-held
clone_within-requires-clause-held g c =
    c.into_str-source.ensures.held c.args.a.now.memory c.requires.held

pub returns-in_err-copy : goal.returns-in_err-copy
returns-in_err-copy g c = λ things name are found none.
    let h = holds are name found in
    not_given c.from_residual.result c.from_residual.ensures.1
    (text_copy_gives_nothing _ _ _ h none c.into_str-source.result c.known.ensures.state
    (c.length_rule.ensures c.args.a.now.memory c.args.text h.held.held) (c.into_str-source.ensures.bytes c.args.a.now.memory h.held.held)
    (rw c.into_str-source.ensures.block refl) c.in_err-copy.ensures)

pub returns : goal.returns
returns g c = λ things name are found none.
    let h = holds are name found in
    text_copy_gives _ _ _ h none c.into_str-source.result c.known.ensures.state
    (c.length_rule.ensures c.args.a.now.memory c.args.text h.held.held) (c.into_str-source.ensures.bytes c.args.a.now.memory h.held.held)
    (rw c.into_str-source.ensures.block refl) c.in_ok-copy.ensures
