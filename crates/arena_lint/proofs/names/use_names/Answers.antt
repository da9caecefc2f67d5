use Rattle.std.proofs.lemmas.Bool.Decides.{nat_tests}
use Rattle.std.proofs.Common.{◌≡◌, false, arith}
use Rattle.std.specs.Prelude.{slice_index}
use Rattle.tree_rules.specs.Tokens.{is_name_start}
use Rattle.arena_lint.proofs.NameLemmas.{left_within, left_further, left_utf8, left_word, left_behind, left_none}
use Rattle.arena_lint.proofs.names.use_names.Goals as goal
use Rattle.arena_lint.proofs.names.use_names.Goals.{else-b-gt59-via-then-b-gt59+else-is_name_start, else-b-gt59-via-else-b-gt59}

pub bounds-src-here : goal.bounds-src-here
bounds-src-here g c = left_within g.F.TakesFindings.taking (c.names.invariant.left c.requires.names)

pub use_name-requires-clause-utf8 : goal.use_name-requires-clause-utf8
use_name-requires-clause-utf8 g c =
    left_utf8 g.F.TakesFindings.taking (c.names.invariant.left c.requires.names) _ c.word_end-end.ensures.tokens

pub names-preserved-then-is_name_start : goal.names-preserved-then-is_name_start
names-preserved-then-is_name_start g c = record {
  later = omega (arith, c.names.invariant.later, c.word_end-end.ensures.some);
  left = λ t. left_word g.F.TakesFindings.taking (c.names.invariant.left t) _ c.word_end-end.ensures.tokens
      (λ sets knows. c.in_ok-use_name.ensures.gains sets knows);
}

pub returns-then-b-eq59-clause-gains : goal.returns-then-b-eq59-clause-gains
returns-then-b-eq59-clause-gains g c t sets knows =
    left_none g.F.TakesFindings.taking (c.names.invariant.left t) (grind (arith, nat_tests, c.if-b-eq59.true)) sets knows

pub returns-then-b-eq59-clause-behind : goal.returns-then-b-eq59-clause-behind
returns-then-b-eq59-clause-behind g c t =
    left_behind g.F.TakesFindings.taking (c.names.invariant.left t) (grind (arith, nat_tests, c.if-b-eq59.true))

pub overflow_add-here : goal.overflow_add-here
overflow_add-here g c = let within = left_within g.F.TakesFindings.taking (c.names.invariant.left c.requires.names) in
    grind (arith, nat_tests, within, c.type_inv.src)

pub names-smaller : goal.names-smaller
names-smaller g c = omega (arith, left_within g.F.TakesFindings.taking (c.names.invariant.left c.requires.names))

pub names-preserved : goal.names-preserved
names-preserved g c =
    let start : is_name_start (slice_index c.args.src.now c.names.here) ≡ false = elim c.else-b-gt59.branch [
      | else-b-gt59-via-then-b-gt59+else-is_name_start w ↦ grind (arith, nat_tests, w.if-is_name_start, w.is_name_start.ensures)
      | else-b-gt59-via-else-b-gt59 w ↦ grind (arith, nat_tests, w.if-b-gt59)
    ] in
    record {
      later = omega (arith, c.names.invariant.later);
      left = λ t. left_further g.F.TakesFindings.taking (c.names.invariant.left t) start (grind (arith, nat_tests, c.if-b-eq59.false));
    }
