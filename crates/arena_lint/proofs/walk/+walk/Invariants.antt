use Rattle.std.proofs.Common.{◌+◌, ◌-◌, ◌*◌, ◌≤◌, length}
use Rattle.arena_lint.specs.Steps.{Walking}
use Rattle.arena_lint.proofs.walk.+walk.Given as goal

abbrev pub decreases-walk_line : goal.decreases-walk_line
decreases-walk_line g l = 2 * (length l.src.now - l.at)

abbrev pub decreases-walk : goal.decreases-walk
decreases-walk g l = 2 * (length l.src.now - l.at) + 1

abbrev pub invariant-walk-lines : goal.invariant-walk-lines
invariant-walk-lines g l = record {
  within : l.here ≤ length l.src;
  done : Walking g.F.TakesFindings.taking l.fn.a l.a l.fn.known l.known l.fn.found l.found l.src l.at l.here;
}

abbrev pub decreases-walk-lines : goal.decreases-walk-lines
decreases-walk-lines g l = length l.src - l.here
