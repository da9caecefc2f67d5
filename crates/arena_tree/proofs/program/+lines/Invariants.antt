use Rattle.std.proofs.Common.{length, ◌+◌, ◌-◌, ◌*◌, ◌≤◌, None}
use Rattle.arena_tree.specs.LineParts.{AreLines}
use Rattle.arena_tree.specs.Asking.{LinesRead}
use Rattle.arena_tree.specs.Spending.{AnyBlock, Spends, most_for, credit}
use Rattle.arena_tree.proofs.program.+lines.Given as goal

abbrev pub decreases-block : goal.decreases-block
decreases-block g l = 3 * (length l.src.now - l.behind) + 2

abbrev pub decreases-line : goal.decreases-line
decreases-line g l = 3 * (length l.src.now - l.at)

abbrev pub decreases-lines : goal.decreases-lines
decreases-lines g l = 3 * (length l.src.now - l.at) + 1

abbrev pub invariant-lines-loop-list : goal.invariant-lines-loop-list
invariant-lines-loop-list g l = record {
  read : AreLines l.deep l.src l.at l.here l.fn.a.memory l.a.memory l.list;
  few : 2 * l.list.raw.len ≤ l.here - l.at;
  spends : Spends AnyBlock (most_for (l.here - l.at)) 0 (credit l.list) l.fn.a l.a None;
  row : LinesRead l.src l.at l.here l.fn.a l.a l.list;
}

abbrev pub decreases-lines-loop-list : goal.decreases-lines-loop-list
decreases-lines-loop-list g l = length l.src - l.here
