use Rattle.std.proofs.Common.{◌≡◌, ap, ◌∙◌, Ok}
use Rattle.tree_rules.specs.Trees.{folded_stmts, folds_of_stmts, text}
use Rattle.lint_tests.proofs.uses.set_out_folded.Goals as goal

pub returns-in-Ok : goal.returns-in-Ok
returns-in-Ok g c = λ trees reads.
    let p = c.in_ok-tree.ensures.parses in
    let same : p.0 ≡ trees = cc (c.one_reading.ensures c.args.src.now (Ok p.0) (Ok trees) p.1 reads) in
    let f = c.fold-folds.ensures.folded p.0 p.2.stand in
    let printed = c.in-Ok.ensures (folded_stmts p.0) f.means in
    (printed ∙ ap (λ t. text (folded_stmts t)) same, f.count_is ∙ ap folds_of_stmts same)
