use Rattle.std.proofs.Common.{◌++◌, ◌∙◌, ◌-◌, ap, arith, replicate, None}
use Rattle.std.specs.Vec.{vec_len}
use Rattle.std.proofs.lemmas.List.{take_all}
use Rattle.name_map.proofs.names.lengthen.Goals as goal

pub returns-clause-ok : goal.returns-clause-ok
returns-clause-ok g c = (
  c.min.result - vec_len c.args.first.now,
  c.in_ok-resize.ensures.items
      ∙ ap (λ xs. xs ++ replicate (c.min.result - vec_len c.args.first.now) None)
      (take_all c.min.result c.args.first.now.items (omega (arith, c.min.ensures, c.requires))),
)
