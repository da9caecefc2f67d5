use Rattle.std.proofs.lemmas.Bool.Decides.{nat_tests}
use Rattle.std.proofs.Common.{ℕ, add-one, subst, refl, ap, sym, ◌∙◌, ◌∷◌, arith, ◌+◌, ◌-◌}
use Rattle.arena_tree.specs.Spending.{most_for, credit}
use Rattle.tree_nodes.proofs.SpendingLemmas.{asks_any, spends_nothing, spends_then, spends_more, frees, frees_then}
use Rattle.arena_tree.proofs.PartCostLemmas.{err_up_to, err_all, err_text, stops_then, stops_more, arena_stops, text_stops}
use Rattle.arena_store.specs.declared.block.Block.{Block}
use Rattle.arena_vec.specs.declared.vec.Vec.{Vec}
use Rattle.tree_rules.specs.Tokens.{LeftBrace}
use Rattle.tree_rules.specs.Grammar.{BlockLine, Empty, Next, spell, line_tree, trees_of}
use Rattle.tree_nodes.specs.declared.node.Node.{Node}
use Rattle.arena_tree.specs.Parts.{IsPassed}
use Rattle.arena_tree.specs.Subtrees.{OfStmt}
use Rattle.arena_tree.specs.LineParts.{at_line}
use Rattle.tree_nodes.proofs.LinesLemmas.{block_placed}
use Rattle.tree_nodes.proofs.RowLemmas.{row_none, stmts_built, stmts_more}
use Rattle.arena_tree.proofs.PartLemmas.{opens_brace, closes_brace, deep_brace, refused_then}
use Rattle.arena_items.proofs.Layers.{empty_solid}
use Rattle.arena_tree.proofs.PartRunLemmas.{block_ran, lines_none, lines_more, lines_ran, lines_same}
use Rattle.std.specs.Prelude.{Option, Some}
use Rattle.arena_tree.proofs.EndLemmas.{err_ends, err_arena, in_lines, block_up, line_up, push_ends}
use Rattle.arena_tree.proofs.program.+lines.Goals as goal

pub block-returns-clause-tree : goal.block-returns-clause-tree
block-returns-clause-tree g t c =
    let k = c.in_ok-list.ensures.trees.0 in
    let brace = opens_brace c.requires.nest c.if-deep-eq-MOST_OPEN.false c.requires.start in
    let close = closes_brace c.requires.nest c.in-Some.ensures.some in
    record {
      part = BlockLine k.part;
      long = omega (arith, brace.later, k.later, close.later);
      read = record {
        tokens_are = brace.tokens_are ∙ ap (λ ts. LeftBrace ∷ ts) (k.tokens_are ∙ ap (spell k.part) close.tokens_are);
        same = λ u. brace.same u ∙ (k.same ∙ close.same u);
        later = omega (arith, brace.later, k.later, close.later);
        within = close.within;
      };
      placed = block_placed _ _ _ _ _ (stmts_built _ _ _ _ k.built) c.with_kids.ensures.kind c.with_kids.ensures.kids
          c.with_kids.ensures.rest;
    }

pub block-returns-then-deep-eq-MOST_OPEN-clause-text : goal.block-returns-then-deep-eq-MOST_OPEN-clause-text
block-returns-then-deep-eq-MOST_OPEN-clause-text g t c = deep_brace c.requires.nest c.if-deep-eq-MOST_OPEN.true c.requires.start

pub block-returns-in_err-list-clause-text : goal.block-returns-in_err-list-clause-text
block-returns-in_err-list-clause-text g t c =
    let brace = opens_brace c.requires.nest c.if-deep-eq-MOST_OPEN.false c.requires.start in
    err_text (Vec Node × ℕ) _ _ _ _ c.from_residual.ensures (λ no. refused_then brace (λ u. no) tt) c.in_err-list.ensures.text

pub block-returns-in_default-clause-text : goal.block-returns-in_default-clause-text
block-returns-in_default-clause-text g t c =
    let k = c.in_ok-list.ensures.trees.0 in
    let brace = opens_brace c.requires.nest c.if-deep-eq-MOST_OPEN.false c.requires.start in
    λ p. c.in_default.ensures.none c.args.deep
    (subst (λ n. IsPassed c.args.src.now (at_line n) c.in_ok-list.stop) (add-one c.args.deep) (sym (brace.same tt ∙ k.same) ∙ p))

pub block-returns-in_default-clause-spends : goal.block-returns-in_default-clause-spends
block-returns-in_default-clause-spends g t c =
    let brace = c.requires.start in
    let k = c.in_ok-list.ensures in
    text_stops k.spends k.trees.0.built.frame (omega (arith, brace.later, k.trees.0.within))

pub block-returns-clause-spends : goal.block-returns-clause-spends
block-returns-clause-spends g t c =
    let block = c.requires.start in
    let close = c.in-Some.ensures.some in
    let k = c.in_ok-list.ensures in
    spends_more k.spends (omega (arith, block.later, k.trees.0.later, close.later)) (omega (arith, block.later, k.trees.0.later, close.later))

pub block-returns-in_err-list-clause-spends : goal.block-returns-in_err-list-clause-spends
block-returns-in_err-list-clause-spends g t c =
    let block = c.requires.start in
    err_up_to _ _ _ _ c.from_residual.ensures (stops_more _ c.in_err-list.ensures.spends (omega arith))

pub lines-loop-list-init : goal.lines-loop-list-init
lines-loop-list-init g t c =
    let m = c.args.a.now.memory in
    let list = c.new_in-list.ensures in
    record {
      few = omega (arith, list.len);
      row = lines_none (empty_solid c.new_in-list.result.raw.block (ap (λ (b : Block). b.size) list.block)) list.len list.cap;
      spends = spends_nothing _ 0 _ c.args.a.now (omega (arith, list.len));
      read = record {
        part = Empty;
        tokens_are = refl;
        same = refl;
        built = row_none m c.new_in-list.result (list.held m) (list.list m) (ap (λ (b : Block). b.size) list.block);
        later = omega arith;
        within = c.requires.within;
      };
    }

pub lines-loop-list-preserved : goal.lines-loop-list-preserved
lines-loop-list-preserved g t c =
    let i = c.loop-list.invariant in
    let k = rw c.in-Some.is at c.in_ok-line.ensures in
    let push = c.in_ok-push_node-in-Some.ensures in
    let read = spends_then {all = most_for (c.in-Some.end - c.args.at)} {rest = 512 + credit c.loop-list.list} i.spends k.spends
    (frees i.read.built.frame) (omega arith) (omega arith) (omega arith) in
    record {
      few = omega arith;
      row = lines_more i.row k.ran push.asks push.grown push.len push.held;
      spends = asks_any
          (spends_then read push.spends (frees_then i.read.built.frame k.tree.placed.frame) (omega arith) (omega arith) (omega arith));
      read = record {
        part = Next i.read.part k.tree.part;
        tokens_are = i.read.tokens_are ∙ ap (spell i.read.part) k.tree.tokens_are;
        same = i.read.same ∙ k.tree.same tt;
        built = stmts_more (trees_of i.read.part) (line_tree k.tree.part) (push.row _ (OfStmt _) _ _ i.read.built k.tree.placed);
        later = omega arith;
        within = k.tree.within;
      };
    }

pub lines-returns-in_err-line-clause-spends : goal.lines-returns-in_err-line-clause-spends
lines-returns-in_err-line-clause-spends g t c =
    let i = c.loop-list.invariant in
    err_all _ _ _ _ c.from_residual.ensures
    (stops_then _ i.spends c.in_err-line.ensures.spends (frees i.read.built.frame) (omega arith) (omega arith))

pub line-returns-in-None-clause-text : goal.line-returns-in-None-clause-text
line-returns-in-None-clause-text g t c = c.in-None.ensures.none (record { depth = c.args.deep; low = c.requires.nest })

pub lines-returns-in_err-line-clause-text : goal.lines-returns-in_err-line-clause-text
lines-returns-in_err-line-clause-text g t c = grind (arith, nat_tests, err_text)

pub lines-returns-in-None-clause-spends : goal.lines-returns-in-None-clause-spends
lines-returns-in-None-clause-spends g t c =
    let i = c.loop-list.invariant in
    let k = rw c.in-None.is at c.in_ok-line.ensures in
    spends_then i.spends k.spends (frees i.read.built.frame) (omega arith) (omega arith) (omega arith)

pub lines-returns-in_err-push_node-in-Some-clause-spends : goal.lines-returns-in_err-push_node-in-Some-clause-spends
lines-returns-in_err-push_node-in-Some-clause-spends g t c =
    let i = c.loop-list.invariant in
    let k = rw c.in-Some.is at c.in_ok-line.ensures in
    let read = spends_then {all = most_for (c.in-Some.end - c.args.at)} {rest = 512 + credit c.loop-list.list} i.spends k.spends
    (frees i.read.built.frame) (omega arith) (omega arith) (omega arith) in
    err_all _ _ _ _ c.from_residual-in_err-push_node-in-Some.ensures
    (arena_stops _ (spends_then read c.in_err-push_node-in-Some.ensures.spends (frees_then i.read.built.frame k.tree.placed.frame) (omega arith)
    (omega arith) (omega arith)))

pub block-returns-clause-ran : goal.block-returns-clause-ran
block-returns-clause-ran g t c = block_ran c.requires.start c.in_ok-list.ensures.ran c.in-Some.ensures.some

pub lines-returns-in-None-clause-ran : goal.lines-returns-in-None-clause-ran
lines-returns-in-None-clause-ran g t c =
    let k = rw c.in-None.is at c.in_ok-line.ensures in
    lines_ran (lines_same c.loop-list.invariant.row k.ran)

pub block-returns-in_err-list-clause-ends : goal.block-returns-in_err-list-clause-ends
block-returns-in_err-list-clause-ends g t c h p first u =
    err_ends (Vec Node × ℕ) _ _ _ c.from_residual.ensures (c.in_err-list.ensures.ends (Some h) p first (block_up h u c.requires.start))

pub lines-returns-in_err-line-clause-ends : goal.lines-returns-in_err-line-clause-ends
lines-returns-in_err-line-clause-ends g t c o p first u =
    let r = c.loop-list.invariant.row in
    err_ends (Option ℕ) _ _ _ c.from_residual.ensures (c.in_err-line.ensures.ends (in_lines o r.part) p first (line_up o u r))

pub lines-returns-in_err-push_node-in-Some-clause-ends : goal.lines-returns-in_err-push_node-in-Some-clause-ends
lines-returns-in_err-push_node-in-Some-clause-ends g t c o p first u =
    let k = rw c.in-Some.is at c.in_ok-line.ensures in
    err_arena _ _ _ c.from_residual-in_err-push_node-in-Some.ensures
    (push_ends o u c.loop-list.invariant.row k.ran c.in_err-push_node-in-Some.ensures.asks)

pub line-returns-in_err-last-in-Some-Let-clause-ends : goal.line-returns-in_err-last-in-Some-Let-clause-ends
line-returns-in_err-last-in-Some-Let-clause-ends g t c h p first u =
    err_ends ℕ _ _ _ c.from_residual.ensures (c.in_err-last-in-Some-Let.ensures.ends h p first u)

pub line-returns-in_err-last-in-Some-Expr-clause-ends : goal.line-returns-in_err-last-in-Some-Expr-clause-ends
line-returns-in_err-last-in-Some-Expr-clause-ends g t c h p first u =
    err_ends ℕ _ _ _ c.from_residual-in_err-last-in-Some-Expr.ensures (c.in_err-last-in-Some-Expr.ensures.ends h p first u)

pub line-returns-in_err-last-in-Some-Block-clause-ends : goal.line-returns-in_err-last-in-Some-Block-clause-ends
line-returns-in_err-last-in-Some-Block-clause-ends g t c h p first u =
    err_ends ℕ _ _ _ c.from_residual-in_err-last-in-Some-Block.ensures (c.in_err-last-in-Some-Block.ensures.ends h p first u)
