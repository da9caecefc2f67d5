use Rattle.std.proofs.Common.{◌-◌, ◌≡◌, ◌≤◌, ◌++◌, replicate}
use Rattle.arena_region.proofs.fill.clear.Given as goal

abbrev pub invariant-loop-at : goal.invariant-loop-at
invariant-loop-at l =
    (l.from ≤ l.at) × (l.at ≤ l.room) × (l.base.ptr ≡ l.store.at) × (l.store.at ≡ l.fn.store.at) × (l.store.room ≡ l.at)
    × (l.store.ready ≡ replicate (l.room - l.at) 0 ++ l.fn.store.ready)

abbrev pub decreases-loop-at : goal.decreases-loop-at
decreases-loop-at l = l.at - l.from
