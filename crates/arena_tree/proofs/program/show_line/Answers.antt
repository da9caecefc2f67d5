use Rattle.std.proofs.Common.{ℕ, arith, refl, sym, ◌∙◌}
use Rattle.tree_nodes.proofs.SpendingLemmas.{asks_any, spends_then, frees}
use Rattle.arena_tree.proofs.PartCostLemmas.{err_up_to, err_text, arena_stops, text_stops}
use Rattle.tree_rules.specs.Trees.{NoExprs, And}
use Rattle.tree_rules.specs.Grammar.{ShowLine, terms_tree}
use Rattle.tree_nodes.proofs.LinesLemmas.{show_placed}
use Rattle.tree_nodes.proofs.RowLemmas.{exprs_built}
use Rattle.arena_tree.proofs.PartLemmas.{in_braces, reads_value}
use Rattle.arena_tree.proofs.PartRunLemmas.{show_ran}
use Rattle.tree_rules.specs.Places.{ShowOf, Of}
use Rattle.arena_tree.proofs.EndLemmas.{err_ends, err_arena, show_up, show_ends}
use Rattle.arena_tree.proofs.program.show_line.Goals as goal

pub returns : goal.returns
returns g c =
    let e = c.in_ok-stop.ensures in
    let end = c.in-Some.ensures.some in
    let r = reads_value c.requires.nest e.tree.read end in
    let node = c.in_ok-wrap.ensures.tree _ _ e.tree.placed in
    record {
      tree = record {
        part = ShowLine e.tree.part;
        long = omega (arith, e.tree.later, end.later);
        read = record {
          tokens_are = r.tokens_are;
          same = λ u. c.requires.starts c.args.deep ∙ r.same u;
          later = r.later;
          within = r.within;
        };
        placed = show_placed _ _ _ _ _ (exprs_built (And (terms_tree e.tree.part) NoExprs) _ _ _ node.1) node.0 refl (node.2, node.3);
      };
      spends = asks_any (spends_then e.spends c.in_ok-wrap.ensures.spends (frees e.tree.placed.frame) (omega (arith, end.later))
          (omega (arith, end.later)) (omega (arith, end.later)));
      ran = show_ran e.ran end c.in_ok-wrap.ensures.asks;
      text = tt;
      ends = λ h p first u. tt;
    }

pub returns-in_err-stop-clause-text : goal.returns-in_err-stop-clause-text
returns-in_err-stop-clause-text g c = err_text ℕ _ _ _ _ c.from_residual.ensures (λ no p. no (in_braces c.args.deep) (sym (c.requires.starts c.args.deep) ∙ p))
    c.in_err-stop.ensures.text

pub returns-in_default : goal.returns-in_default
returns-in_default g c =
    let e = c.in_ok-stop.ensures in
    record {
      tree = tt;
      spends = text_stops e.spends e.tree.placed.frame (omega (arith, e.tree.within));
      ran = tt;
      text = λ p. c.in_default.ensures.none c.args.deep (sym (c.requires.starts c.args.deep ∙ e.tree.same (in_braces c.args.deep)) ∙ p);
      ends = λ h p first u. tt;
    }

pub returns-in_err-wrap-clause-spends : goal.returns-in_err-wrap-clause-spends
returns-in_err-wrap-clause-spends g c =
    let e = c.in_ok-stop.ensures in
    err_up_to _ _ _ _ c.from_residual-in_err-wrap.ensures
    (arena_stops _ (spends_then e.spends c.in_err-wrap.ensures.spends (frees e.tree.placed.frame) (omega arith) (omega arith) (omega arith)))

pub returns-in_err-stop-clause-ends : goal.returns-in_err-stop-clause-ends
returns-in_err-stop-clause-ends g c h p first u =
    err_ends ℕ _ _ _ c.from_residual.ensures (c.in_err-stop.ensures.ends (Of ShowOf h) p first (show_up h u))

pub returns-in_err-wrap-clause-ends : goal.returns-in_err-wrap-clause-ends
returns-in_err-wrap-clause-ends g c h p first u = err_arena _ _ _ c.from_residual-in_err-wrap.ensures
    (show_ends h u c.in_ok-stop.ensures.ran c.in-Some.ensures.some c.in_err-wrap.ensures.asks)
