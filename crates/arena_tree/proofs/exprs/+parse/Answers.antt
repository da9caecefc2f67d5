use Rattle.std.proofs.Common.{◌≡◌, ◌+◌, ℕ, ap, sym, refl, length, length-set, length-take, set, take, ◌∙◌, arith}
use Rattle.std.specs.Prelude.{slice_range}
use Rattle.arena_store.specs.declared.block.Block.{Block}
use Rattle.tree_rules.specs.Grammar.{ANumber, AName, InParens, Negated, OneFactor, Times, OneTerm, factor_tree, factors_tree}
use Rattle.arena_tree.specs.Subtrees.{OfExpr}
use Rattle.tree_nodes.proofs.BuildLemmas.{prod_placed, number_placed}
use Rattle.tree_nodes.proofs.RowLemmas.{row_none, read_none, read_more, read_frame, list_kept, exprs_built}
use Rattle.tree_nodes.proofs.SpendingLemmas.{spends_then, spends_more, asks_any, frees, frees_then, range_length}
use Rattle.arena_tree.proofs.PartCostLemmas.{stops_more, arena_stops, text_stops, err_up_to, err_text}
use Rattle.arena_tree.proofs.PartLemmas.{reads_then, reads_in, reads_leaf, reads_plain, reads_star, reads_sign, refused_then, in_paren, in_sign, unsigned, opens_paren, closes_paren, opens_sign, deep_paren, deep_sign, joined, terms_placed}
use Rattle.arena_tree.proofs.GatherLemmas.{first_child, set_twice, kid_read, sign_placed, factor_more, term_more, stop_behind, put_all, read_on, whole, read_into}
use Rattle.tree_rules.specs.Grammar.{spell_factor, spell_factors}
use Rattle.arena_items.proofs.Layers.{empty_solid}
use Rattle.arena_tree.specs.Asking.{factor_asks, factors_asks}
use Rattle.arena_tree.proofs.PartRunLemmas.{number_ran, name_ran, negated_ran, parens_ran, one_factor_ran, one_term_ran, first_ran, is_more, factors_first, factors_last, factors_more, factors_four, terms_first, terms_last, terms_more, terms_four}
use Rattle.tree_rules.specs.Places.{First, Behind, Signed, FirstTerm, Within}
use Rattle.arena_tree.proofs.EndLemmas.{err_ends, err_arena, added, name_ends, sign_up, negated_ends, paren_up, first_up, behind_up, factors_last_ends, factors_four_ends, first_term_up, added_up, taken_ends, terms_last_ends, terms_four_ends}
use Rattle.arena_tree.proofs.exprs.+parse.Goals as goal

pub factor-returns-in-Some-Number-clause-tree : goal.factor-returns-in-Some-Number-clause-tree
factor-returns-in-Some-Number-clause-tree g t c =
    let number = rw c.in-Some-Number.field-0-is at c.in-Some-Number.ensures.some in
    record {
      part = ANumber c.in-Some-Number.n;
      read = reads_leaf c.requires.nest number.0 number.1 (λ opens. refl);
      stopped = tt;
      placed = number_placed _ _ _ c.number.ensures.node;
    }

pub factor-returns-in-Some-Number-clause-ran : goal.factor-returns-in-Some-Number-clause-ran
factor-returns-in-Some-Number-clause-ran g t c =
    let number = rw c.in-Some-Number.field-0-is at c.in-Some-Number.ensures.some in
    number_ran number.0

pub factor-returns-in_ok-name_node-in-Some-Word : goal.factor-returns-in_ok-name_node-in-Some-Word
factor-returns-in_ok-name_node-in-Some-Word g t c =
    let word = rw c.in-Some-Word.field-0-is at c.in-Some-Word.ensures.some in
    let few = range_length c.args.src.now c.in-Some-Word.begin c.in-Some-Word.end in
    record {
      tree = record {
        part = AName (slice_range c.args.src.now c.in-Some-Word.begin c.in-Some-Word.end);
        read = reads_leaf c.requires.nest word.0 refl (λ opens. refl);
        stopped = tt;
        placed = c.in_ok-name_node-in-Some-Word.ensures.tree;
      };
      spends = asks_any (spends_more c.in_ok-name_node-in-Some-Word.ensures.spends (omega arith) (omega arith));
      ran = name_ran word.0 c.in_ok-name_node-in-Some-Word.ensures.asks;
      text = tt;
      ends = λ h p first u. tt;
    }

pub factor-returns-in_err-name_node-in-Some-Word-clause-spends : goal.factor-returns-in_err-name_node-in-Some-Word-clause-spends
factor-returns-in_err-name_node-in-Some-Word-clause-spends g t c =
    let word = rw c.in-Some-Word.field-0-is at c.in-Some-Word.ensures.some in
    let few = range_length c.args.src.now c.in-Some-Word.begin c.in-Some-Word.end in
    err_up_to _ _ _ _ c.from_residual.ensures (arena_stops _ (spends_more c.in_err-name_node-in-Some-Word.ensures.spends (omega arith) (omega arith)))

pub minus-returns : goal.minus-returns
minus-returns g t c =
    let minus = c.requires.start in
    let k = c.in_ok-end.ensures in
    record {
      tree = record {
        part = Negated k.tree.part;
        read = reads_then (opens_sign c.requires.nest c.if-deep-eq-MOST_OPEN.false minus) (reads_in in_sign k.tree.read);
        stopped = tt;
        placed = c.in_ok-negate.ensures.tree (factor_tree k.tree.part) _ k.tree.placed;
      };
      spends = asks_any (spends_then k.spends c.in_ok-negate.ensures.spends (frees k.tree.placed.frame) (omega arith) (omega arith)
          (omega arith));
      ran = negated_ran minus k.ran c.in_ok-negate.ensures.asks;
      text = tt;
      ends = λ h p first u. tt;
    }

pub minus-returns-in_err-end-clause-spends : goal.minus-returns-in_err-end-clause-spends
minus-returns-in_err-end-clause-spends g t c =
    err_up_to _ _ _ _ c.from_residual.ensures (stops_more _ c.in_err-end.ensures.spends (omega (arith, c.requires.start.later)))

pub minus-returns-in_err-negate-clause-spends : goal.minus-returns-in_err-negate-clause-spends
minus-returns-in_err-negate-clause-spends g t c =
    let k = c.in_ok-end.ensures in
    err_up_to _ _ _ _ c.from_residual-in_err-negate.ensures (arena_stops _ (spends_then k.spends c.in_err-negate.ensures.spends (frees k.tree.placed.frame) (omega arith) (omega arith) (omega arith)))

pub paren-returns : goal.paren-returns
paren-returns g t c =
    let paren = c.requires.start in
    let k = c.in_ok-end.ensures in
    let close = c.in-Some.ensures.some in
    record {
      tree = record {
        part = InParens k.tree.part;
        read = reads_then (opens_paren c.requires.nest c.if-deep-eq-MOST_OPEN.false paren)
            (reads_then (reads_in in_paren k.tree.read) (closes_paren c.requires.nest close));
        stopped = tt;
        placed = k.tree.placed;
      };
      spends = spends_more k.spends (omega (arith, close.later)) (omega (arith, close.later));
      ran = parens_ran paren k.ran close;
      text = tt;
      ends = λ h p first u. tt;
    }

pub paren-returns-in_err-end-clause-spends : goal.paren-returns-in_err-end-clause-spends
paren-returns-in_err-end-clause-spends g t c =
    err_up_to _ _ _ _ c.from_residual.ensures (stops_more _ c.in_err-end.ensures.spends (omega (arith, c.requires.start.later)))

pub minus-returns-then-deep-eq-MOST_OPEN-clause-text : goal.minus-returns-then-deep-eq-MOST_OPEN-clause-text
minus-returns-then-deep-eq-MOST_OPEN-clause-text g t c = deep_sign c.requires.nest c.if-deep-eq-MOST_OPEN.true c.requires.start

pub minus-returns-in_err-end-clause-text : goal.minus-returns-in_err-end-clause-text
minus-returns-in_err-end-clause-text g t c =
    let sign = opens_sign c.requires.nest c.if-deep-eq-MOST_OPEN.false c.requires.start in
    err_text ℕ _ _ _ _ c.from_residual.ensures (λ no. refused_then sign (λ o. no (in_sign o))) c.in_err-end.ensures.text

pub paren-returns-then-deep-eq-MOST_OPEN-clause-text : goal.paren-returns-then-deep-eq-MOST_OPEN-clause-text
paren-returns-then-deep-eq-MOST_OPEN-clause-text g t c = deep_paren c.requires.nest c.if-deep-eq-MOST_OPEN.true c.requires.start

pub paren-returns-in_err-end-clause-text : goal.paren-returns-in_err-end-clause-text
paren-returns-in_err-end-clause-text g t c =
    let paren = opens_paren c.requires.nest c.if-deep-eq-MOST_OPEN.false c.requires.start in
    err_text ℕ _ _ _ _ c.from_residual.ensures (λ no. refused_then paren (λ o. no (in_paren o))) c.in_err-end.ensures.text

pub paren-returns-in_default : goal.paren-returns-in_default
paren-returns-in_default g t c =
    let k = c.in_ok-end.ensures in
    record {
      tree = tt;
      spends = text_stops k.spends k.tree.placed.frame (omega (arith, c.requires.start.later, k.tree.within));
      ran = tt;
      text = refused_then (opens_paren c.requires.nest c.if-deep-eq-MOST_OPEN.false c.requires.start)
          (refused_then (reads_in in_paren k.tree.read) (λ o. c.in_default.ensures.none o.opens));
      ends = λ h p first u. tt;
    }

pub term-returns-in_err-end-clause-text : goal.term-returns-in_err-end-clause-text
term-returns-in_err-end-clause-text g t c =
    err_text ℕ _ _ _ _ c.from_residual.ensures (λ no o. no (unsigned o)) c.in_err-end.ensures.text

-- ---- Terms

pub term-returns-in-None-clause-tree : goal.term-returns-in-None-clause-tree
term-returns-in-None-clause-tree g t c =
    let k = c.in_ok-end.ensures.tree in
    record { part = OneFactor k.part; read = reads_plain c.requires.nest k.read; stopped = c.in-None.ensures.none; placed = k.placed }

pub term-returns-in-Some : goal.term-returns-in-Some
term-returns-in-Some g t c =
    let k = c.in_ok-end.ensures in
    let first = first_child k.spends k.tree.part (reads_plain c.requires.nest k.tree.read) k.tree.placed
    (reads_star c.requires.nest c.in-Some.ensures.some) in
    record {
      tree = c.factors.ensures.tree c.args.at c.args.a.now first;
      spends = c.factors.ensures.spends c.args.at c.args.a.now first;
      ran = c.factors.ensures.ran c.args.at c.args.a.now (first_ran {spelled = spell_factor} {asks = factor_asks} k.ran c.in-Some.ensures.some);
      text = c.factors.ensures.text c.args.at c.args.a.now first;
      ends = λ h p first u. c.factors.ensures.ends c.args.at c.args.a.now
          (first_ran {spelled = spell_factor} {asks = factor_asks} k.ran c.in-Some.ensures.some) h p first u;
    }

pub term-returns-in-None-clause-ran : goal.term-returns-in-None-clause-ran
term-returns-in-None-clause-ran g t c = one_factor_ran c.in_ok-end.ensures.ran

pub factors-loop-stop-init : goal.factors-loop-stop-init
factors-loop-stop-init g t c =
    let list = c.new_in-list.ensures in
    record {
      within = (omega arith, c.requires.within);
      few = (omega arith, omega (arith, list.len));
      nodes = refl;
      held = list.held c.args.a.now.memory;
      read = λ from old first. record {
        part = OneFactor first.part;
        read = first.read;
        row = read_more (OfExpr (factor_tree first.part)) c.args.node.now (read_none (row_none old.memory c.new_in-list.result
            (list.held old.memory) (list.list old.memory) (ap (λ (b : Block). b.size) list.block))) first.placed;
        few = omega (arith, first.long, list.len);
        spends = asks_any (spends_more first.spends (omega arith) (omega (arith, list.len)));
      };
      row = λ from old first. factors_first first
          (empty_solid c.new_in-list.result.raw.block (ap (λ (b : Block). b.size) list.block)) list.len list.cap;
    }

pub factors-returns-in_err-stop-clause-spends : goal.factors-returns-in_err-stop-clause-spends
factors-returns-in_err-stop-clause-spends g t c = λ from old first.
    err_up_to _ _ _ _ c.from_residual.ensures (stop_behind _ (c.loop-stop.invariant.read from old first) c.in_err-stop.ensures.spends)

pub factors-returns-in_err-stop-clause-text : goal.factors-returns-in_err-stop-clause-text
factors-returns-in_err-stop-clause-text g t c = λ from old first.
    err_text ℕ _ _ _ _ c.from_residual.ensures (λ no. refused_then (c.loop-stop.invariant.read from old first).read (λ o. no (unsigned o)))
    c.in_err-stop.ensures.text

pub factors-returns-in_err-all-clause-spends : goal.factors-returns-in_err-all-clause-spends
factors-returns-in_err-all-clause-spends g t c = λ from old first.
    let i = c.loop-stop.invariant in
    let r = i.read from old first in
    let k = c.in_ok-stop.ensures in
    let b = factor_more _ c.loop-stop.count i.few.0 i.nodes c.requires.nest k.spends r k.tree in
    err_up_to _ _ _ _ c.from_residual-in_err-all.ensures (arena_stops _ (put_all b c.in_err-all.ensures.spends (omega (arith, k.tree.within)) (omega arith)))

pub factors-returns-in_default : goal.factors-returns-in_default
factors-returns-in_default g t c =
    let i = c.loop-stop.invariant in
    let k = c.in_ok-stop.ensures in
    let node = c.with_kids.ensures in
    record {
      tree = λ from old first.
          let b = factor_more _ c.loop-stop.count i.few.0 i.nodes c.requires.nest k.spends (i.read from old first) k.tree in
          record {
            part = Times (i.read from old first).part k.tree.part;
            read = b.read;
            stopped = c.in_default.ensures.none;
            placed = prod_placed _ _ _ _ _ (exprs_built _ _ _ _ (c.in_ok-all.ensures.row _ _ b.row)) node.kind node.kids node.rest;
          };
      spends = λ from old first. asks_any (put_all (factor_more _ c.loop-stop.count i.few.0 i.nodes c.requires.nest k.spends
          (i.read from old first) k.tree) c.in_ok-all.ensures.spends (omega arith) (omega arith));
      ran = λ from old first.
          let others = set c.loop-stop.nodes c.loop-stop.count c.factor.new.node in
          let many : length (take (c.loop-stop.count + 1) others) ≡ c.loop-stop.count + 1
          = omega (arith, length-take (c.loop-stop.count + 1) others, length-set c.loop-stop.nodes c.loop-stop.count c.factor.new.node, i.nodes, i.few) in
          let put = c.in_ok-all.ensures in
          factors_last (i.row from old first) k.ran
          (is_more (length (take (c.loop-stop.count + 1) others)) (c.loop-stop.count + 1) (c.loop-stop.count + 1) many (omega arith) put.asks put.grown put.len put.held) refl;
      text = λ from old first. tt;
      ends = λ from old first h p view u. tt;
    }

pub factors-returns-in_err-list-clause-spends : goal.factors-returns-in_err-list-clause-spends
factors-returns-in_err-list-clause-spends g t c = λ from old first.
    let i = c.loop-stop.invariant in
    let r = i.read from old first in
    let k = c.in_ok-stop.ensures in
    let four = length-set c.loop-stop.nodes c.loop-stop.count c.factor.new.node ∙ i.nodes in
    let b = whole (factor_more _ c.loop-stop.count i.few.0 i.nodes c.requires.nest k.spends r k.tree) (four ∙ sym c.if-count-eq-FEW.true) in
    err_up_to _ _ _ _ c.from_residual-in_err-list.ensures (arena_stops _ (put_all b c.in_err-list.ensures.spends (omega (arith, k.tree.within)) (omega arith)))

pub factors-loop-stop-preserved-then-count-eq-FEW : goal.factors-loop-stop-preserved-then-count-eq-FEW
factors-loop-stop-preserved-then-count-eq-FEW g t c =
    let i = c.loop-stop.invariant in
    let k = c.in_ok-stop.ensures in
    let op = c.in-Some.ensures.some in
    let put = c.in_ok-list.ensures in
    let four = length-set c.loop-stop.nodes c.loop-stop.count c.factor.new.node ∙ i.nodes in
    record {
      within = (omega (arith, i.within, k.tree.later, op.later), op.within);
      few = (omega arith, omega (arith, i.few, put.len, four, k.tree.later, op.later, c.if-count-eq-FEW.true));
      nodes = four;
      held = put.held;
      read = λ from old first.
          let b = factor_more _ c.loop-stop.count i.few.0 i.nodes c.requires.nest k.spends (i.read from old first) k.tree in
          read_into (read_on (whole b (four ∙ sym c.if-count-eq-FEW.true)) (reads_star c.requires.nest op)) put.spends put.len
          (put.row _ _);
      row = λ from old first. factors_four (i.row from old first) k.ran op
          (is_more (length (set c.loop-stop.nodes c.loop-stop.count c.factor.new.node)) (c.loop-stop.count + 1) 8 (four ∙ sym c.if-count-eq-FEW.true)
          (omega arith) put.asks put.grown put.len put.held) c.if-count-eq-FEW.true refl;
    }

pub factors-loop-stop-preserved : goal.factors-loop-stop-preserved
factors-loop-stop-preserved g t c =
    let i = c.loop-stop.invariant in
    let k = c.in_ok-stop.ensures in
    let op = c.in-Some.ensures.some in
    record {
      within = (omega (arith, i.within, k.tree.later, op.later), op.within);
      few = (omega (arith, i.few, c.if-count-eq-FEW.false), omega (arith, i.few, k.tree.later, op.later));
      nodes = length-set c.loop-stop.nodes c.loop-stop.count c.factor.new.node ∙ i.nodes;
      held = list_kept i.held k.tree.placed.frame;
      read = λ from old first. read_on (factor_more _ c.loop-stop.count i.few.0 i.nodes c.requires.nest
          k.spends (i.read from old first) k.tree) (reads_star c.requires.nest op);
      row = λ from old first. factors_more (i.row from old first) k.ran op c.if-count-eq-FEW.false;
    }

-- ---- Expressions

pub expr-returns-in-None-clause-tree : goal.expr-returns-in-None-clause-tree
expr-returns-in-None-clause-tree g t c =
    let k = c.in_ok-end.ensures.tree in
    record { part = OneTerm k.part; read = k.read; stopped = (k.stopped, c.in-None.ensures.none); placed = k.placed }

pub expr-returns-in-Some : goal.expr-returns-in-Some
expr-returns-in-Some g t c =
    let k = c.in_ok-end.ensures in
    let first = first_child k.spends k.tree.part k.tree.read k.tree.placed
    (reads_sign c.requires.nest c.in-Some.minus c.in-Some.ensures.some) in
    record {
      tree = c.terms.ensures.tree c.args.at c.args.a.now first;
      spends = c.terms.ensures.spends c.args.at c.args.a.now first;
      ran = c.terms.ensures.ran c.args.at c.args.a.now (first_ran {spelled = spell_factors} {asks = factors_asks} k.ran c.in-Some.ensures.some);
      text = c.terms.ensures.text c.args.at c.args.a.now first;
      ends = λ h p first u. c.terms.ensures.ends c.args.at c.args.a.now
          (first_ran {spelled = spell_factors} {asks = factors_asks} k.ran c.in-Some.ensures.some) h p first u;
    }

pub expr-returns-in-None-clause-ran : goal.expr-returns-in-None-clause-ran
expr-returns-in-None-clause-ran g t c = one_term_ran c.in_ok-end.ensures.ran

pub terms-loop-stop-init : goal.terms-loop-stop-init
terms-loop-stop-init g t c =
    let list = c.new_in-list.ensures in
    record {
      within = (omega arith, c.requires.within);
      few = (omega arith, omega (arith, list.len));
      nodes = refl;
      held = list.held c.args.a.now.memory;
      read = λ from old first. record {
        part = OneTerm first.part;
        read = first.read;
        row = read_more (OfExpr (factors_tree first.part)) c.args.node.now (read_none (row_none old.memory c.new_in-list.result
            (list.held old.memory) (list.list old.memory) (ap (λ (b : Block). b.size) list.block))) first.placed;
        few = omega (arith, first.long, list.len);
        spends = asks_any (spends_more first.spends (omega arith) (omega (arith, list.len)));
      };
      row = λ from old first. terms_first c.args.first first
          (empty_solid c.new_in-list.result.raw.block (ap (λ (b : Block). b.size) list.block)) list.len list.cap;
    }

pub terms-with_more-requires-clause-held : goal.terms-with_more-requires-clause-held
terms-with_more-requires-clause-held g t c =
    let i = c.loop-stop.invariant in
    list_kept i.held (sign_placed c.loop-stop.nodes c.loop-stop.count i.few.0 i.nodes c.loop-stop.minus _ c.in_ok-stop.ensures.tree.placed
    c.in_ok-sign.ensures.tree).frame

pub terms-with_more-requires-then-count-eq-FEW-clause-held : goal.terms-with_more-requires-then-count-eq-FEW-clause-held
terms-with_more-requires-then-count-eq-FEW-clause-held g t c =
    let i = c.loop-stop.invariant in
    list_kept i.held (sign_placed c.loop-stop.nodes c.loop-stop.count i.few.0 i.nodes c.loop-stop.minus _ c.in_ok-stop.ensures.tree.placed
    c.in_ok-sign.ensures.tree).frame

pub terms-returns-in_err-stop-clause-spends : goal.terms-returns-in_err-stop-clause-spends
terms-returns-in_err-stop-clause-spends g t c = λ from old first.
    err_up_to _ _ _ _ c.from_residual.ensures (stop_behind _ (c.loop-stop.invariant.read from old first) c.in_err-stop.ensures.spends)

pub terms-returns-in_err-stop-clause-text : goal.terms-returns-in_err-stop-clause-text
terms-returns-in_err-stop-clause-text g t c = λ from old first.
    err_text ℕ _ _ _ _ c.from_residual.ensures (λ no. refused_then (c.loop-stop.invariant.read from old first).read no)
    c.in_err-stop.ensures.text

pub terms-returns-in_err-sign-clause-spends : goal.terms-returns-in_err-sign-clause-spends
terms-returns-in_err-sign-clause-spends g t c = λ from old first.
    let r = c.loop-stop.invariant.read from old first in
    let k = c.in_ok-stop.ensures in
    err_up_to _ _ _ _ c.from_residual-in_err-sign.ensures
    (arena_stops _ (spends_then (kid_read r k.spends k.tree.later) c.in_err-sign.ensures.spends (frees_then (read_frame r.row) k.tree.placed.frame)
    (omega (arith, k.tree.within)) (omega (arith, k.tree.within)) (omega (arith, k.tree.within))))

pub terms-returns-in_err-all-clause-spends : goal.terms-returns-in_err-all-clause-spends
terms-returns-in_err-all-clause-spends g t c = λ from old first.
    let i = c.loop-stop.invariant in
    let r = i.read from old first in
    let k = c.in_ok-stop.ensures in
    let b = term_more _ c.loop-stop.count i.few.0 i.nodes c.requires.nest k.spends c.loop-stop.minus _ r k.tree
    c.in_ok-sign.ensures.spends c.in_ok-sign.ensures.tree in
    err_up_to _ _ _ _ c.from_residual-in_err-all.ensures (arena_stops _ (put_all b c.in_err-all.ensures.spends (omega (arith, k.tree.within)) (omega arith)))

pub terms-returns-in_default : goal.terms-returns-in_default
terms-returns-in_default g t c =
    let i = c.loop-stop.invariant in
    let k = c.in_ok-stop.ensures in
    let node = c.with_kids.ensures in
    record {
      tree = λ from old first.
          let r = i.read from old first in
          let b = term_more _ c.loop-stop.count i.few.0 i.nodes c.requires.nest k.spends c.loop-stop.minus _ r k.tree
          c.in_ok-sign.ensures.spends c.in_ok-sign.ensures.tree in
          record {
            part = joined c.loop-stop.minus r.part k.tree.part;
            read = b.read;
            stopped = (k.tree.stopped, c.in_default.ensures.none);
            placed = terms_placed c.loop-stop.minus r.part k.tree.part (c.in_ok-all.ensures.row _ _ b.row) node.kind node.kids node.rest;
          };
      spends = λ from old first. asks_any (put_all (term_more _ c.loop-stop.count i.few.0 i.nodes c.requires.nest k.spends c.loop-stop.minus _
          (i.read from old first) k.tree c.in_ok-sign.ensures.spends c.in_ok-sign.ensures.tree) c.in_ok-all.ensures.spends (omega arith)
          (omega arith));
      ran = λ from old first.
          let others = set (set c.loop-stop.nodes c.loop-stop.count c.term.new.node) c.loop-stop.count c.sign.new.node in
          let many : length (take (c.loop-stop.count + 1) others) ≡ c.loop-stop.count + 1
          = omega (arith, length-take (c.loop-stop.count + 1) others, set_twice c.loop-stop.nodes c.loop-stop.count c.term.new.node c.sign.new.node i.nodes, i.few) in
          let put = c.in_ok-all.ensures in
          terms_last c.loop-stop.minus (i.row from old first) k.ran _ c.in_ok-sign.ensures.asks
          (is_more (length (take (c.loop-stop.count + 1) others)) (c.loop-stop.count + 1) (c.loop-stop.count + 1) many (omega arith) put.asks put.grown put.len put.held) refl;
      text = λ from old first. tt;
      ends = λ from old first h p view u. tt;
    }

pub terms-returns-in_err-list-clause-spends : goal.terms-returns-in_err-list-clause-spends
terms-returns-in_err-list-clause-spends g t c = λ from old first.
    let i = c.loop-stop.invariant in
    let r = i.read from old first in
    let k = c.in_ok-stop.ensures in
    let four = set_twice c.loop-stop.nodes c.loop-stop.count c.term.new.node c.sign.new.node i.nodes in
    let b = whole (term_more _ c.loop-stop.count i.few.0 i.nodes c.requires.nest k.spends c.loop-stop.minus _ r k.tree
    c.in_ok-sign.ensures.spends c.in_ok-sign.ensures.tree) (four ∙ sym c.if-count-eq-FEW.true) in
    err_up_to _ _ _ _ c.from_residual-in_err-list.ensures (arena_stops _ (put_all b c.in_err-list.ensures.spends (omega (arith, k.tree.within)) (omega arith)))

pub terms-loop-stop-preserved-then-count-eq-FEW : goal.terms-loop-stop-preserved-then-count-eq-FEW
terms-loop-stop-preserved-then-count-eq-FEW g t c =
    let i = c.loop-stop.invariant in
    let k = c.in_ok-stop.ensures in
    let op = c.in-Some.ensures.some in
    let put = c.in_ok-list.ensures in
    let four = set_twice c.loop-stop.nodes c.loop-stop.count c.term.new.node c.sign.new.node i.nodes in
    record {
      within = (omega (arith, i.within, k.tree.later, op.later), op.within);
      few = (omega arith, omega (arith, i.few, put.len, four, k.tree.later, op.later, c.if-count-eq-FEW.true));
      nodes = four;
      held = put.held;
      read = λ from old first.
          let b = term_more _ c.loop-stop.count i.few.0 i.nodes c.requires.nest k.spends c.loop-stop.minus _ (i.read from old first) k.tree
          c.in_ok-sign.ensures.spends c.in_ok-sign.ensures.tree in
          read_into (read_on (whole b (four ∙ sym c.if-count-eq-FEW.true)) (reads_sign c.requires.nest c.in-Some.less op)) put.spends
          put.len (put.row _ _);
      row = λ from old first. terms_four c.loop-stop.minus (i.row from old first) k.ran _ c.in_ok-sign.ensures.asks c.in-Some.less op
          (is_more (length (set (set c.loop-stop.nodes c.loop-stop.count c.term.new.node) c.loop-stop.count c.sign.new.node)) (c.loop-stop.count + 1) 8
          (four ∙ sym c.if-count-eq-FEW.true) (omega arith) put.asks put.grown put.len put.held) c.if-count-eq-FEW.true refl;
    }

pub terms-loop-stop-preserved : goal.terms-loop-stop-preserved
terms-loop-stop-preserved g t c =
    let i = c.loop-stop.invariant in
    let k = c.in_ok-stop.ensures in
    let op = c.in-Some.ensures.some in
    record {
      within = (omega (arith, i.within, k.tree.later, op.later), op.within);
      few = (omega (arith, i.few, c.if-count-eq-FEW.false), omega (arith, i.few, k.tree.later, op.later));
      nodes = set_twice c.loop-stop.nodes c.loop-stop.count c.term.new.node c.sign.new.node i.nodes;
      held = list_kept i.held
          (sign_placed c.loop-stop.nodes c.loop-stop.count i.few.0 i.nodes c.loop-stop.minus _ k.tree.placed c.in_ok-sign.ensures.tree).frame;
      read = λ from old first. read_on (term_more _ c.loop-stop.count i.few.0 i.nodes c.requires.nest k.spends c.loop-stop.minus _
          (i.read from old first) k.tree c.in_ok-sign.ensures.spends c.in_ok-sign.ensures.tree) (reads_sign c.requires.nest c.in-Some.less op);
      row = λ from old first. terms_more c.loop-stop.minus (i.row from old first) k.ran _ c.in_ok-sign.ensures.asks c.in-Some.less op
          c.if-count-eq-FEW.false;
    }

-- ---- Where a part is stopped

pub factor-returns-in_err-name_node-in-Some-Word-clause-ends : goal.factor-returns-in_err-name_node-in-Some-Word-clause-ends
factor-returns-in_err-name_node-in-Some-Word-clause-ends g t c h p first u =
    let word = rw c.in-Some-Word.field-0-is at c.in-Some-Word.ensures.some in
    err_arena _ _ _ c.from_residual.ensures (name_ends h u word.0 c.in_err-name_node-in-Some-Word.ensures.asks)

pub minus-returns-in_err-end-clause-ends : goal.minus-returns-in_err-end-clause-ends
minus-returns-in_err-end-clause-ends g t c h p first u =
    err_ends ℕ _ _ _ c.from_residual.ensures (c.in_err-end.ensures.ends (Signed h) p first (sign_up h u c.requires.start))

pub minus-returns-in_err-negate-clause-ends : goal.minus-returns-in_err-negate-clause-ends
minus-returns-in_err-negate-clause-ends g t c h p first u = err_arena _ _ _ c.from_residual-in_err-negate.ensures
    (negated_ends h u c.requires.start c.in_ok-end.ensures.ran c.in_err-negate.ensures.asks)

pub paren-returns-in_err-end-clause-ends : goal.paren-returns-in_err-end-clause-ends
paren-returns-in_err-end-clause-ends g t c h p first u =
    err_ends ℕ _ _ _ c.from_residual.ensures (c.in_err-end.ensures.ends (Within h) p first (paren_up h u c.requires.start))

pub term-returns-in_err-end-clause-ends : goal.term-returns-in_err-end-clause-ends
term-returns-in_err-end-clause-ends g t c h p first u =
    err_ends ℕ _ _ _ c.from_residual.ensures (c.in_err-end.ensures.ends (First h) p first (first_up h u))

pub factors-returns-in_err-stop-clause-ends : goal.factors-returns-in_err-stop-clause-ends
factors-returns-in_err-stop-clause-ends g t c from old one h p first u =
    let r = c.loop-stop.invariant.row from old one in
    err_ends ℕ _ _ _ c.from_residual.ensures (c.in_err-stop.ensures.ends (Behind r.part h) p first (behind_up h u r))

pub factors-returns-in_err-all-clause-ends : goal.factors-returns-in_err-all-clause-ends
factors-returns-in_err-all-clause-ends g t c from old one h p first u =
    let i = c.loop-stop.invariant in
    let others = set c.loop-stop.nodes c.loop-stop.count c.factor.new.node in
    let many : length (take (c.loop-stop.count + 1) others) ≡ c.loop-stop.count + 1
    = omega (arith, length-take (c.loop-stop.count + 1) others, length-set c.loop-stop.nodes c.loop-stop.count c.factor.new.node, i.nodes, i.few) in
    err_arena _ _ _ c.from_residual-in_err-all.ensures (factors_last_ends h u (i.row from old one) c.in_ok-stop.ensures.ran _ _ many
    c.in_err-all.ensures.asks refl c.in_default.ensures.none)

pub factors-returns-in_err-list-clause-ends : goal.factors-returns-in_err-list-clause-ends
factors-returns-in_err-list-clause-ends g t c from old one h p first u =
    let i = c.loop-stop.invariant in
    let four = length-set c.loop-stop.nodes c.loop-stop.count c.factor.new.node ∙ i.nodes in
    err_arena _ _ _ c.from_residual-in_err-list.ensures (factors_four_ends h u (i.row from old one) c.in_ok-stop.ensures.ran _ _
    (four ∙ sym c.if-count-eq-FEW.true) c.in_err-list.ensures.asks c.if-count-eq-FEW.true refl c.in-Some.ensures.some)

pub expr-returns-in_err-end-clause-ends : goal.expr-returns-in_err-end-clause-ends
expr-returns-in_err-end-clause-ends g t c h p first u =
    err_ends ℕ _ _ _ c.from_residual.ensures (c.in_err-end.ensures.ends (FirstTerm h) p first (first_term_up h u))

pub terms-returns-in_err-stop-clause-ends : goal.terms-returns-in_err-stop-clause-ends
terms-returns-in_err-stop-clause-ends g t c from old one h p first u =
    let r = c.loop-stop.invariant.row from old one in
    err_ends ℕ _ _ _ c.from_residual.ensures
    (c.in_err-stop.ensures.ends (added c.loop-stop.minus r.part h) p first (added_up h u c.loop-stop.minus r))

pub terms-returns-in_err-sign-clause-ends : goal.terms-returns-in_err-sign-clause-ends
terms-returns-in_err-sign-clause-ends g t c from old one h p first u =
    let k = c.in_ok-stop.ensures in
    let asks = c.in_err-sign.ensures.asks in
    err_arena _ _ _ c.from_residual-in_err-sign.ensures
    (taken_ends h u c.loop-stop.minus (c.loop-stop.invariant.row from old one) k.ran asks.0 asks.1 k.tree.stopped)

pub terms-returns-in_err-all-clause-ends : goal.terms-returns-in_err-all-clause-ends
terms-returns-in_err-all-clause-ends g t c from old one h p first u =
    let i = c.loop-stop.invariant in
    let k = c.in_ok-stop.ensures in
    let others = set (set c.loop-stop.nodes c.loop-stop.count c.term.new.node) c.loop-stop.count c.sign.new.node in
    let many : length (take (c.loop-stop.count + 1) others) ≡ c.loop-stop.count + 1
    = omega (arith, length-take (c.loop-stop.count + 1) others, set_twice c.loop-stop.nodes c.loop-stop.count c.term.new.node c.sign.new.node i.nodes, i.few) in
    err_arena _ _ _ c.from_residual-in_err-all.ensures (terms_last_ends h u c.loop-stop.minus (i.row from old one) k.ran _
    c.in_ok-sign.ensures.asks _ _ many c.in_err-all.ensures.asks refl (k.tree.stopped, c.in_default.ensures.none))

pub terms-returns-in_err-list-clause-ends : goal.terms-returns-in_err-list-clause-ends
terms-returns-in_err-list-clause-ends g t c from old one h p first u =
    let i = c.loop-stop.invariant in
    let four = set_twice c.loop-stop.nodes c.loop-stop.count c.term.new.node c.sign.new.node i.nodes in
    err_arena _ _ _ c.from_residual-in_err-list.ensures (terms_four_ends h u c.loop-stop.minus (i.row from old one) c.in_ok-stop.ensures.ran _
    c.in_ok-sign.ensures.asks _ _ (four ∙ sym c.if-count-eq-FEW.true) c.in_err-list.ensures.asks c.in-Some.less c.if-count-eq-FEW.true refl
    c.in-Some.ensures.some)
