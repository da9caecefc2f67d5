use Rattle.std.proofs.Common.{ℕ, ◌≤◌, arith, refl, sym, ◌∙◌, ◌-◌}
use Rattle.tree_rules.specs.Refusals.{most_nest}
use Rattle.arena_tree.specs.Spending.{most_for}
use Rattle.tree_nodes.proofs.SpendingLemmas.{asks_any, spends_then, spends_more, frees, frees_then, range_length}
use Rattle.arena_tree.proofs.PartCostLemmas.{err_up_to, err_text, arena_stops, stops_then, text_stops}
use Rattle.std.specs.Prelude.{slice_range}
use Rattle.tree_rules.specs.Trees.{NoExprs, And}
use Rattle.tree_rules.specs.Grammar.{LetLine, terms_tree}
use Rattle.arena_tree.specs.LineParts.{Depth}
use Rattle.tree_nodes.proofs.LinesLemmas.{let_node_placed}
use Rattle.tree_nodes.proofs.RowLemmas.{exprs_built}
use Rattle.arena_tree.proofs.PartLemmas.{reads_then, reads_in, in_braces, reads_value}
use Rattle.arena_tree.proofs.PartRunLemmas.{let_ran}
use Rattle.tree_rules.specs.Places.{LetOf, Of}
use Rattle.arena_tree.proofs.EndLemmas.{err_ends, err_arena, let_name_ends, let_up, let_ends}
use Rattle.arena_tree.proofs.program.let_line.Goals as goal

-- the depth at which it begins
abbrev depth : (deep : ℕ) → deep ≤ most_nest → Unit {0} → Depth
depth deep nest u = record { depth = deep; low = nest }

pub returns-clause-tree : goal.returns-clause-tree
returns-clause-tree g c =
    let e = c.in_ok-stop.ensures.tree in
    let text = c.in_ok-name.ensures in
    let node = c.in_ok-wrap.ensures.tree _ _ e.placed in
    let first = reads_in (depth c.args.deep c.requires.nest) c.requires.first in
    record {
      part = LetLine (slice_range c.args.src.now c.args.begin c.args.end) e.part;
      long = omega (arith, first.later, e.later, c.in-Some.ensures.some.later);
      read = reads_then first (reads_value c.requires.nest e.read c.in-Some.ensures.some);
      placed = let_node_placed _ _ _ _ _ _ _ _ text.held text.text text.frame (exprs_built (And (terms_tree e.part) NoExprs) _ _ _
          node.1) node.0 refl refl node.2;
    }

pub returns-in_err-stop-clause-text : goal.returns-in_err-stop-clause-text
returns-in_err-stop-clause-text g c =
    let first = reads_in (depth c.args.deep c.requires.nest) c.requires.first in
    err_text ℕ _ _ _ _ c.from_residual-in_err-stop.ensures (λ no p. no (in_braces c.args.deep) (sym (first.same tt) ∙ p))
    c.in_err-stop.ensures.text

pub returns-in_default-clause-text : goal.returns-in_default-clause-text
returns-in_default-clause-text g c p =
    let e = c.in_ok-stop.ensures.tree in
    let first = reads_in (depth c.args.deep c.requires.nest) c.requires.first in
    c.in_default.ensures.none c.args.deep (sym (first.same tt ∙ e.same (in_braces c.args.deep)) ∙ p)

pub returns-in_err-name-clause-spends : goal.returns-in_err-name-clause-spends
returns-in_err-name-clause-spends g c =
    let few = range_length c.args.src.now c.args.begin c.args.end in
    err_up_to _ _ _ _ c.from_residual.ensures (arena_stops _ (spends_more c.in_err-name.ensures.spends (omega arith) (omega arith)))

pub returns-in_err-stop-clause-spends : goal.returns-in_err-stop-clause-spends
returns-in_err-stop-clause-spends g c =
    let few = range_length c.args.src.now c.args.begin c.args.end in
    let text = c.in_ok-name.ensures in
    err_up_to _ _ _ _ c.from_residual-in_err-stop.ensures
    (stops_then _ text.spends c.in_err-stop.ensures.spends (frees text.frame) (omega arith) (omega arith))

pub returns-in_default-clause-spends : goal.returns-in_default-clause-spends
returns-in_default-clause-spends g c =
    let few = range_length c.args.src.now c.args.begin c.args.end in
    let text = c.in_ok-name.ensures in
    let e = c.in_ok-stop.ensures in
    let read = spends_then {all = most_for (c.in_ok-stop.stop - c.args.at)} {rest = 512} text.spends e.spends (frees text.frame)
    (omega arith) (omega arith) (omega arith) in
    text_stops read (frees_then text.frame e.tree.placed.frame) (omega (arith, e.tree.within))

pub returns-in_err-wrap-clause-spends : goal.returns-in_err-wrap-clause-spends
returns-in_err-wrap-clause-spends g c =
    let few = range_length c.args.src.now c.args.begin c.args.end in
    let text = c.in_ok-name.ensures in
    let e = c.in_ok-stop.ensures in
    let read = spends_then {all = most_for (c.in_ok-stop.stop - c.args.at)} {rest = 512} text.spends e.spends (frees text.frame)
    (omega arith) (omega arith) (omega arith) in
    err_up_to _ _ _ _ c.from_residual-in_err-wrap.ensures
    (arena_stops _ (spends_then read c.in_err-wrap.ensures.spends (frees_then text.frame e.tree.placed.frame) (omega arith) (omega arith) (omega arith)))

pub returns-clause-spends : goal.returns-clause-spends
returns-clause-spends g c =
    let few = range_length c.args.src.now c.args.begin c.args.end in
    let text = c.in_ok-name.ensures in
    let e = c.in_ok-stop.ensures in
    let read = spends_then {all = most_for (c.in_ok-stop.stop - c.args.at)} {rest = 512} text.spends e.spends (frees text.frame)
    (omega arith) (omega arith) (omega arith) in
    let end = c.in-Some.ensures.some in
    asks_any (spends_then read c.in_ok-wrap.ensures.spends (frees_then text.frame e.tree.placed.frame) (omega (arith, end.later))
    (omega (arith, end.later)) (omega (arith, end.later)))

pub returns-clause-ran : goal.returns-clause-ran
returns-clause-ran g c = let_ran (slice_range c.args.src.now c.args.begin c.args.end) c.requires.first.tokens_are c.in_ok-name.ensures.asks
    c.in_ok-stop.ensures.ran c.in-Some.ensures.some c.in_ok-wrap.ensures.asks

pub returns-in_err-name-clause-ends : goal.returns-in_err-name-clause-ends
returns-in_err-name-clause-ends g c h p first u =
    err_arena _ _ _ c.from_residual.ensures (let_name_ends h u _ c.requires.first.tokens_are c.in_err-name.ensures.asks)

pub returns-in_err-stop-clause-ends : goal.returns-in_err-stop-clause-ends
returns-in_err-stop-clause-ends g c h p first u = err_ends ℕ _ _ _ c.from_residual-in_err-stop.ensures
    (c.in_err-stop.ensures.ends (Of (LetOf (slice_range c.args.src.now c.args.begin c.args.end)) h) p first
    (let_up h u _ c.requires.first.tokens_are c.in_ok-name.ensures.asks))

pub returns-in_err-wrap-clause-ends : goal.returns-in_err-wrap-clause-ends
returns-in_err-wrap-clause-ends g c h p first u = err_arena _ _ _ c.from_residual-in_err-wrap.ensures
    (let_ends h u _ c.requires.first.tokens_are c.in_ok-name.ensures.asks c.in_ok-stop.ensures.ran c.in-Some.ensures.some c.in_err-wrap.ensures.asks)
