use Rattle.std.proofs.Common.{◌∙◌, arith}
use Rattle.name_map.proofs.NameLemmas.{get_first, get_other}
use Rattle.name_map.proofs.names.Names.get.Goals as goal

pub returns-then-at-len : goal.returns-then-at-len
returns-then-at-len g c = rw (← c.self.view_is)
    (c.index.ensures ∙ get_first c.self.inside.first.items c.self.inside.others c.args.name _ c.self.invariant (omega arith))

pub returns : goal.returns
returns g c = rw (← c.self.view_is)
    (c.copied.ensures ∙ c.get.ensures.value ∙ get_other c.self.inside.first.items c.self.inside.others c.args.name (omega arith))
