use Rattle.std.proofs.Common.{◌≡◌, ◌+◌, ◌-◌, ◌≤◌}
use Rattle.arena_store.proofs.ShiftLemmas.{moved}
use Rattle.arena_store.proofs.shift.shift_down.Given as goal

abbrev pub invariant-loop-done : goal.invariant-loop-done
invariant-loop-done g l = (l.done + g.row.W ≤ l.n) × (l.bytes ≡ moved l.initial.bytes l.from l.to l.done)

abbrev pub decreases-loop-done : goal.decreases-loop-done
decreases-loop-done g l = l.n - l.done
