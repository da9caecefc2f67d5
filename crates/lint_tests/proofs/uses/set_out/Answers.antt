use Rattle.std.proofs.Common.{◌≡◌, ap, ◌∙◌, Ok}
use Rattle.tree_rules.specs.Trees.{text}
use Rattle.lint_tests.proofs.uses.set_out.Goals as goal

pub returns-in-Ok : goal.returns-in-Ok
returns-in-Ok g c = λ trees good.
    let p = c.in_ok-tree.ensures.parses in
    let same : p.0 ≡ trees = cc (c.one_reading.ensures c.args.src.now (Ok p.0) (Ok trees) p.1 good) in
    c.in-Ok.ensures p.0 p.2.stand ∙ ap text same
