use Rattle.std.proofs.Common.{[], ◌∷◌}
use Rattle.std.proofs.lemmas.Result.{on_ok_weaker}
use Rattle.arena_lint.proofs.LintLemmas.{nothing_known, nothing_spends}
use Rattle.arena_lint.proofs.StatementLemmas.{all_ahead}
use Rattle.arena_lint.proofs.lint.give_findings.Goals as goal

pub walk-requires-clause-known : goal.walk-requires-clause-known
walk-requires-clause-known g c = (nothing_known c.new_in-known.ensures).known c.args.a.now.memory

pub walk-requires-clause-lines : goal.walk-requires-clause-lines
walk-requires-clause-lines g c = let p = c.requires.program in
    (all_ahead c.args.src.now p.0 p.1 (c.well_formed-2.ensures c.args.src.now p.0 p.1).0).ahead

pub returns : goal.returns
returns g c = let nothing = nothing_known c.new_in-known.ensures in record {
  gains = λ trees is. let t = all_ahead c.args.src.now trees is (c.well_formed-2.ensures c.args.src.now trees is).0 in
      on_ok_weaker c.walk.result (λ both. both.1)
      (rw t.trees at (c.walk.ensures.finds t.ahead ([] ∷ []) (nothing.knows c.args.a.now.memory)));
  spends = λ trees is. let t = all_ahead c.args.src.now trees is (c.well_formed-2.ensures c.args.src.now trees is).0 in
      nothing_spends trees c.tree_weight.ensures c.requires.small nothing is (rw t.trees at (c.walk.ensures.takes t.ahead));
  asks = λ trees is. let t = all_ahead c.args.src.now trees is (c.well_formed-2.ensures c.args.src.now trees is).0 in
      record { first = _; last = _; none = c.new_in-known.ensures; goes = rw t.trees at (c.walk.ensures.goes t.ahead) };
}
