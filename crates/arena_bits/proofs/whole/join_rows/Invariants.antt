use Rattle.std.proofs.Common.{◌-◌, ◌≤◌}
use Rattle.arena_bits.specs.Sets.{JoinsFirst}
use Rattle.arena_bits.proofs.whole.join_rows.Given as goal

abbrev pub invariant-rows : goal.invariant-rows
invariant-rows g l = (l.done ≤ l.count) × JoinsFirst l.fn.a l.a l.set l.other l.done

abbrev pub decreases-rows : goal.decreases-rows
decreases-rows g l = l.count - l.done
