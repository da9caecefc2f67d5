use Rattle.std.proofs.Common.{◌≡◌, ◌-◌, ◌≤◌, ◌<◌}
use Rattle.std.specs.Prelude.{slice_index}
use Rattle.arena_store.proofs.BelowLemmas.{IsSearch}
use Rattle.arena_store.proofs.below.search.Given as goal

abbrev pub invariant-loop-low : goal.invariant-loop-low
invariant-loop-low g l = (l.fn.steps ≤ l.steps) × IsSearch l.bases.items l.addr l.low l.high (l.steps - l.fn.steps)
    × (0 < l.low → l.last ≡ slice_index l.bases.items (l.low - 1))

abbrev pub decreases-loop-low : goal.decreases-loop-low
decreases-loop-low g l = l.high - l.low
