use Rattle.arena_runs.specs.Marks.{LetsGo}
use Rattle.arena_runs.proofs.marks.let_go.Given as goal

abbrev pub invariant-loop-count : goal.invariant-loop-count
invariant-loop-count g l = LetsGo l.arena.state l.initial.names l.names l.count l.log.items

abbrev pub decreases-loop-count : goal.decreases-loop-count
decreases-loop-count g l = l.count
