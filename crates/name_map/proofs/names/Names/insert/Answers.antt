use Rattle.std.proofs.Common.{◌≡◌, sym, ◌∙◌, Some, None, arith}
use Rattle.std.specs.FinMap as map
use Rattle.name_map.proofs.MapLemmas.{tree_get}
use Rattle.name_map.proofs.NameLemmas.{get_other, set_first, set_other, apart_other, insert_next}
use Rattle.name_map.proofs.names.Names.insert.Goals as goal

pub returns-then-at-len-clause-ok : goal.returns-then-at-len-clause-ok
returns-then-at-len-clause-ok g c = rw (← c.self.view_is)
    (set_first c.self.inside.first.items c.self.inside.others c.args.name (Some c.args.value) c.self.invariant (omega arith))

pub returns-in_err-insert-clause-held : goal.returns-in_err-insert-clause-held
returns-in_err-insert-clause-held g c = λ held.
    let none : map.get c.args.self.now c.args.name ≡ None = rw (← c.self.view_is)
    (sym (get_other c.self.inside.first.items c.self.inside.others c.args.name (omega arith)) ∙ c.in_err-insert.ensures.absent) in
    absurd (grind (arith, rw none at held))

pub invariant_of-self-then-at-ge-FIRST : goal.invariant_of-self-then-at-ge-FIRST
invariant_of-self-then-at-ge-FIRST g c = apart_other c.self.inside.first.items c.self.inside.others c.insert.new.self c.args.name _
    (λ low. absurd (omega arith)) c.in_ok-insert.ensures.updates c.self.invariant

pub returns-then-at-ge-FIRST-clause-ok : goal.returns-then-at-ge-FIRST-clause-ok
returns-then-at-ge-FIRST-clause-ok g c = rw (← c.self.view_is) (set_other c.self.inside.first.items c.self.inside.others
    c.insert.new.self c.args.name (Some c.args.value) (omega arith) c.in_ok-insert.ensures.updates)

pub returns-in_err-lengthen-clause-held : goal.returns-in_err-lengthen-clause-held
returns-in_err-lengthen-clause-held g c = λ held.
    let none : map.get c.args.self.now c.args.name ≡ None = rw (← c.self.view_is)
    (sym (get_other c.self.inside.first.items c.self.inside.others c.args.name (omega arith))
    ∙ sym (tree_get c.self.inside.others c.args.name) ∙ c.self.invariant.1 c.args.name (omega arith)) in
    absurd (grind (arith, rw none at held))

pub returns-clause-ok : goal.returns-clause-ok
returns-clause-ok g c =
    let longer = c.in_ok-lengthen.ensures in
    rw (← c.self.view_is) (insert_next c.self.inside.first.items c.lengthen.new.first.items longer.ok.0 c.self.inside.others c.args.name
    c.args.value longer.ok.1 (longer.len.1, c.self.invariant.1) longer.len.0)
