use Rattle.std.proofs.Common.{◌≡◌, ◌≤◌, ◌++◌, length, drop}
use Rattle.arena_region.proofs.fill.copy.Given as goal

abbrev pub invariant-loop-at : goal.invariant-loop-at
invariant-loop-at l =
    (l.at ≤ length l.list) × (l.base.ptr ≡ l.store.at) × (l.store.at ≡ l.fn.store.at) × (l.store.room ≡ l.at)
    × (l.store.ready ≡ drop l.at l.list ++ l.fn.store.ready)

abbrev pub decreases-loop-at : goal.decreases-loop-at
decreases-loop-at l = l.at
