use Rattle.std.proofs.Common.{◌≡◌, ◌+◌, ◌-◌, ◌≤◌}
use Rattle.arena_store.proofs.ShiftLemmas.{moved}
use Rattle.arena_store.proofs.shift.shift_up.Given as goal

abbrev pub invariant-loop-left : goal.invariant-loop-left
invariant-loop-left g l = (g.row.W ≤ l.left) × (l.left ≤ l.n)
    × (l.bytes ≡ moved l.initial.bytes (l.from + l.left) (l.to + l.left) (l.n - l.left))

abbrev pub decreases-loop-left : goal.decreases-loop-left
decreases-loop-left g l = l.left
