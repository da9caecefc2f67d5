use Rattle.std.proofs.Common.{◌∙◌, arith, refl, None}
use Rattle.name_map.proofs.NameLemmas.{get_first, get_other, set_first, set_other, apart_other}
use Rattle.name_map.proofs.names.Names.remove.Goals as goal

pub returns-then-at-len-clause-value : goal.returns-then-at-len-clause-value
returns-then-at-len-clause-value g c = rw (← c.self.view_is)
    (c.index-value.ensures ∙ get_first c.self.inside.first.items c.self.inside.others c.args.name _ c.self.invariant (omega arith))

pub returns-then-at-len-clause-rest : goal.returns-then-at-len-clause-rest
returns-then-at-len-clause-rest g c = rw (← c.self.view_is)
    (set_first c.self.inside.first.items c.self.inside.others c.args.name None c.self.invariant (omega arith))

pub invariant_of-self-2 : goal.invariant_of-self-2
invariant_of-self-2 g c = apart_other c.self.inside.first.items c.self.inside.others c.remove.new.self c.args.name None (λ low. refl)
    c.remove.ensures.updates c.self.invariant

pub returns-clause-value : goal.returns-clause-value
returns-clause-value g c = rw (← c.self.view_is)
    (c.remove.ensures.value ∙ get_other c.self.inside.first.items c.self.inside.others c.args.name (omega arith))

pub returns-clause-rest : goal.returns-clause-rest
returns-clause-rest g c = rw (← c.self.view_is) (set_other c.self.inside.first.items c.self.inside.others c.remove.new.self c.args.name
    None (omega arith) c.remove.ensures.updates)
