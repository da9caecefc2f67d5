use Rattle.std.proofs.lemmas.Bool.Decides.{nat_tests}
use Rattle.std.proofs.Common.{ap, arith, ◌∙◌, rules}
use Rattle.tree_rules.specs.Weights.{weight}
use Rattle.arena_symbols.proofs.Layers.{moves_then}
use Rattle.arena_lint.proofs.SpendingLemmas.{err_takes, takes_exhausted, takes_then, takes_more}
use Rattle.arena_lint.proofs.StatementLemmas.{block_read, block_body, show_read}
use Rattle.arena_lint.proofs.StoppingLemmas.{err_goes, unbegun_stops, body_stops, block_goes}
use Rattle.arena_lint.proofs.WalkLemmas.{moves_none, block_finds, show_finds, show_goes, walking_begin, line_ahead, walking_next, walking_takes, walking_stops, end_none, end_behind, brace_none, brace_behind, walking_end, walked_takes, walked_goes}
use Rattle.arena_lint.proofs.walk.+walk.Goals as goal

-- ---- A statement

pub walk_line-walk-requires : goal.walk_line-walk-requires
walk_line-walk-requires g t c h within = let body = block_body c.requires.line c.requires.next c.in-LeftBrace.is in
    grind (arith, nat_tests, body, rules)

pub walk_line-returns-in_err-enter_block-in-LeftBrace-clause-takes : goal.walk_line-returns-in_err-enter_block-in-LeftBrace-clause-takes
walk_line-returns-in_err-enter_block-in-LeftBrace-clause-takes g t c u =
    let r = block_read u c.requires.next c.in-LeftBrace.is in
    err_takes c.from_residual.result c.from_residual.ensures
    (takes_more _ (omega (arith, ap weight r.is)) c.in_err-enter_block-in-LeftBrace.ensures.takes)

pub walk_line-returns-in_err-enter_block-in-LeftBrace-clause-goes : goal.walk_line-returns-in_err-enter_block-in-LeftBrace-clause-goes
walk_line-returns-in_err-enter_block-in-LeftBrace-clause-goes g t c u = err_goes c.from_residual.result c.from_residual.ensures
    (unbegun_stops (block_read u c.requires.next c.in-LeftBrace.is).is c.in_err-enter_block-in-LeftBrace.ensures.goes)

pub walk_line-returns-in_err-end-in-LeftBrace-clause-moves : goal.walk_line-returns-in_err-end-in-LeftBrace-clause-moves
walk_line-returns-in_err-end-in-LeftBrace-clause-moves g t c = moves_then c.enter_block.ensures.moves c.walk.ensures.moves

pub walk_line-returns-in_err-end-in-LeftBrace-clause-takes : goal.walk_line-returns-in_err-end-in-LeftBrace-clause-takes
walk_line-returns-in_err-end-in-LeftBrace-clause-takes g t c u =
    let r = block_read u c.requires.next c.in-LeftBrace.is in
    err_takes c.from_residual-in_err-end-in-LeftBrace.result c.from_residual-in_err-end-in-LeftBrace.ensures
    (rw r.is (takes_then c.in_ok-enter_block-in-LeftBrace.ensures.takes (c.in_err-end-in-LeftBrace.ensures.takes r.body)))

pub walk_line-returns-in_err-end-in-LeftBrace-clause-goes : goal.walk_line-returns-in_err-end-in-LeftBrace-clause-goes
walk_line-returns-in_err-end-in-LeftBrace-clause-goes g t c u =
    let r = block_read u c.requires.next c.in-LeftBrace.is in
    err_goes c.from_residual-in_err-end-in-LeftBrace.result c.from_residual-in_err-end-in-LeftBrace.ensures
    (body_stops r.is c.in_ok-enter_block-in-LeftBrace.ensures.goes (c.in_err-end-in-LeftBrace.ensures.goes r.body))

pub walk_line-returns-in_ok-end-in-LeftBrace : goal.walk_line-returns-in_ok-end-in-LeftBrace
walk_line-returns-in_ok-end-in-LeftBrace g t c =
    let enters = c.in_ok-enter_block-in-LeftBrace.ensures in
    let done = c.in_ok-end-in-LeftBrace.ensures in record {
      moves = moves_then (moves_then c.enter_block.ensures.moves c.walk.ensures.moves) c.leave_block.ensures.moves;
      finds = λ u sets knows. let r = block_read u c.requires.next c.in-LeftBrace.is in
          block_finds g.F.TakesFindings.taking c.args.a.now.memory c.enter_block.new.a.memory c.walk.new.a.memory
          c.leave_block.new.a.memory c.args.known.now c.enter_block.new.known c.walk.new.known c.leave_block.new.known c.args.found.now
          c.walk.new.found _ _ r.is (λ sets knows. enters.knows sets knows) (λ sets knows. done.finds r.body sets knows)
          c.leave_block.ensures.leaves sets knows;
      takes = λ u. let r = block_read u c.requires.next c.in-LeftBrace.is in
          rw r.is (takes_more _ (omega arith) (takes_then (takes_then enters.takes (done.takes r.body)) c.leave_block.ensures.takes));
      goes = λ u. let r = block_read u c.requires.next c.in-LeftBrace.is in
          block_goes r.is enters.goes (done.goes r.body) c.leave_block.ensures.goes;
      behind = λ u. let r = block_read u c.requires.next c.in-LeftBrace.is in done.behind r.body ∙ r.last;
      later = omega (arith, c.requires.next.behind, c.requires.next.some, done.later);
      within = done.within;
    }

pub walk_line-use_names-requires-clause-names : goal.walk_line-use_names-requires-clause-names
walk_line-use_names-requires-clause-names g t c =
    (show_read c.requires.line c.requires.next c.in_default.not-LetKey c.in_default.not-LeftBrace).names

pub walk_line-returns-in_default : goal.walk_line-returns-in_default
walk_line-returns-in_default g t c = record {
  moves = moves_none c.requires.known;
  finds = λ u. show_finds g.F.TakesFindings.taking (show_read u c.requires.next c.in_default.not-LetKey c.in_default.not-LeftBrace)
      c.args.a.now.memory c.args.known.now c.args.found.now c.use_names.new.found c.use_names.result c.use_names.ensures.gains;
  takes = λ u. takes_exhausted c.args.a.now c.args.known.now _ c.use_names.ensures.exhausted;
  goes = λ u. show_goes (show_read u c.requires.next c.in_default.not-LetKey c.in_default.not-LeftBrace) c.use_names.ensures.exhausted;
  behind = λ u. let r = show_read u c.requires.next c.in_default.not-LetKey c.in_default.not-LeftBrace in
      rw (← r.last) (c.use_names.ensures.behind r.names);
  later = c.use_names.ensures.later;
  within = c.use_names.ensures.within;
}

-- ---- All statements

pub walk-lines-init : goal.walk-lines-init
walk-lines-init g t c = record { within = c.requires.start; done = walking_begin g.F.TakesFindings.taking c.requires.known }

pub walk-walk_line-requires : goal.walk-walk_line-requires
walk-walk_line-requires g t c h within = let one = line_ahead g.F.TakesFindings.taking c.lines.invariant.done c.in-Some.ensures.some
    c.in_default-seen.not-RightBrace c.requires.lines in
    grind (arith, nat_tests, one, rules)

pub walk-returns-in_err-here-clause-moves : goal.walk-returns-in_err-here-clause-moves
walk-returns-in_err-here-clause-moves g t c = moves_then c.lines.invariant.done.moves c.walk_line.ensures.moves

pub walk-returns-in_err-here-clause-takes : goal.walk-returns-in_err-here-clause-takes
walk-returns-in_err-here-clause-takes g t c u = err_takes c.from_residual.result c.from_residual.ensures
    (walking_takes g.F.TakesFindings.taking c.lines.invariant.done c.in-Some.ensures.some c.in_default-seen.not-RightBrace u c.in_err-here.ensures.takes)

pub walk-returns-in_err-here-clause-goes : goal.walk-returns-in_err-here-clause-goes
walk-returns-in_err-here-clause-goes g t c u = err_goes c.from_residual.result c.from_residual.ensures
    (walking_stops g.F.TakesFindings.taking c.lines.invariant.done c.in-Some.ensures.some c.in_default-seen.not-RightBrace u c.in_err-here.ensures.goes)

pub walk-lines-preserved : goal.walk-lines-preserved
walk-lines-preserved g t c = let one = c.in_ok-here.ensures in record {
  within = one.within;
  done = walking_next g.F.TakesFindings.taking c.lines.invariant.done c.in-Some.ensures.some c.in_default-seen.not-RightBrace one.later c.walk_line.ensures.moves
      (λ u sets knows. one.finds u sets knows) (λ u. one.takes u) (λ u. one.goes u) (λ u. one.behind u);
}

pub walk-returns-in_default-clause-finds : goal.walk-returns-in_default-clause-finds
walk-returns-in_default-clause-finds g t c u sets knows = let done = c.lines.invariant.done in
    walking_end g.F.TakesFindings.taking done (end_none g.F.TakesFindings.taking done c.in_default.ensures.none) u sets knows

pub walk-returns-in_default-clause-takes : goal.walk-returns-in_default-clause-takes
walk-returns-in_default-clause-takes g t c u = let done = c.lines.invariant.done in
    walked_takes g.F.TakesFindings.taking done (end_none g.F.TakesFindings.taking done c.in_default.ensures.none) u

pub walk-returns-in_default-clause-goes : goal.walk-returns-in_default-clause-goes
walk-returns-in_default-clause-goes g t c u = let done = c.lines.invariant.done in
    walked_goes g.F.TakesFindings.taking done (end_none g.F.TakesFindings.taking done c.in_default.ensures.none) u

pub walk-returns-in_default-clause-behind : goal.walk-returns-in_default-clause-behind
walk-returns-in_default-clause-behind g t c u =
    end_behind g.F.TakesFindings.taking c.lines.invariant.done c.in_default.ensures.none u

pub walk-returns-in-RightBrace-clause-finds : goal.walk-returns-in-RightBrace-clause-finds
walk-returns-in-RightBrace-clause-finds g t c u sets knows = let done = c.lines.invariant.done in
    walking_end g.F.TakesFindings.taking done
    (brace_none g.F.TakesFindings.taking done c.in-Some.ensures.some c.in-RightBrace.is) u sets knows

pub walk-returns-in-RightBrace-clause-takes : goal.walk-returns-in-RightBrace-clause-takes
walk-returns-in-RightBrace-clause-takes g t c u = let done = c.lines.invariant.done in
    walked_takes g.F.TakesFindings.taking done (brace_none g.F.TakesFindings.taking done c.in-Some.ensures.some c.in-RightBrace.is) u

pub walk-returns-in-RightBrace-clause-goes : goal.walk-returns-in-RightBrace-clause-goes
walk-returns-in-RightBrace-clause-goes g t c u = let done = c.lines.invariant.done in
    walked_goes g.F.TakesFindings.taking done (brace_none g.F.TakesFindings.taking done c.in-Some.ensures.some c.in-RightBrace.is) u

pub walk-returns-in-RightBrace-clause-behind : goal.walk-returns-in-RightBrace-clause-behind
walk-returns-in-RightBrace-clause-behind g t c u =
    brace_behind g.F.TakesFindings.taking c.lines.invariant.done c.in-Some.ensures.some c.in-RightBrace.is u
