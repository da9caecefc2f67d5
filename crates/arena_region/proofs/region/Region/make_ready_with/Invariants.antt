use Rattle.std.proofs.Common.{◌≡◌, ◌+◌, ◌≤◌, length, drop, min}
use Rattle.arena_region.specs.Bytes.{bytes, written_from}
use Rattle.arena_region.proofs.region.Region.make_ready_with.Given as goal

abbrev pub invariant-loop-end : goal.invariant-loop-end
invariant-loop-end l =
    (l.end ≤ length l.list)
    × (l.self ≡ bytes (written_from l.fn.self.items (l.from + l.end) (drop l.end l.list)) (min l.fn.self.low (l.from + l.end)))

abbrev pub decreases-loop-end : goal.decreases-loop-end
decreases-loop-end l = l.end
