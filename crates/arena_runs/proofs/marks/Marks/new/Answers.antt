use Rattle.arena_runs.proofs.Known.{knows_none}
use Rattle.arena_runs.proofs.marks.Marks.new.Goals as goal

pub invariant_of-result : goal.invariant_of-result
invariant_of-result c = rw c.new.ensures.items (knows_none c.new-2.result c.new-2.ensures.empty)
