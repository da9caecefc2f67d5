use Rattle.std.proofs.Common.{◌≡◌, ap, ◌∙◌, Ok, [], ◌∷◌}
use Rattle.tree_rules.specs.Trees.{folded_stmts, text}
use Rattle.arena_tree.specs.Folding.{lists_of}
use Rattle.lint_tests.proofs.uses.set_out_beside.Goals as goal

pub fold-requires : goal.fold-requires
fold-requires g c =
    let p = c.in_ok-tree.ensures.parses in
    (c.tree_law.ensures.placed _ _ _ c.in_ok-tree.tree p.0 c.in-Ok.ensures.frame c.in_ok-tree.ensures.tree p.2.stand).held

pub returns-in-Ok-print-clause-tree : goal.returns-in-Ok-print-clause-tree
returns-in-Ok-print-clause-tree g c = λ trees reads.
    let p = c.in_ok-tree.ensures.parses in
    let stays = c.tree_law.ensures.placed _ _ _ c.in_ok-tree.tree p.0 c.in-Ok.ensures.frame c.in_ok-tree.ensures.tree p.2.stand in
    let same : p.0 ≡ trees = cc (c.one_reading.ensures c.args.src.now (Ok p.0) (Ok trees) p.1 reads) in
    c.in-Ok-print.ensures (folded_stmts p.0) (c.fold.ensures.folded p.0 stays.means).means ∙ ap (λ t. text (folded_stmts t)) same

pub returns-in-Ok-print-clause-list : goal.returns-in-Ok-print-clause-list
returns-in-Ok-print-clause-list g c =
    let p = c.in_ok-tree.ensures.parses in
    let tree = c.in_ok-tree.tree in
    let m = c.from_value_in.new.a.memory in
    let stays = c.tree_law.ensures.placed _ _ _ tree p.0 c.in-Ok.ensures.frame c.in_ok-tree.ensures.tree p.2.stand in
    let fold = c.fold.ensures.folded p.0 stays.means in
    let list = c.in-Ok.list in
    let apart = c.tree_law.ensures.turned m tree p.0 (list.raw.block ∷ []) stays.apart in
    let still = c.frame_law.ensures m c.fold.new.a.memory (lists_of p.0 m tree)
    (lists_of (folded_stmts p.0) c.fold.new.a.memory c.fold.new.self) list fold.frame c.in-Ok.ensures.held
    (c.tree_law.ensures.lists m tree p.0 (list.raw.block ∷ []) apart) in
    (still.held, still.means ∙ c.in-Ok.ensures.list_is)
