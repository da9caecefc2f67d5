use Rattle.std.proofs.Common.{◌-◌, ◌≤◌, length}
use Rattle.arena_lint.specs.Ahead.{NamesAhead}
use Rattle.arena_lint.specs.Steps.{Left}
use Rattle.arena_lint.proofs.names.use_names.Given as goal

abbrev pub invariant-names : goal.invariant-names
invariant-names g l = record {
  later : l.at ≤ l.here;
  left : (t : NamesAhead l.src l.at)
      → Left g.F.TakesFindings.taking l.a.memory l.known l.src l.here l.fn.found l.found t.names t.behind;
}

abbrev pub decreases-names : goal.decreases-names
decreases-names g l = length l.src - l.here
