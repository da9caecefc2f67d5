use Rattle.std.proofs.Common.{◌+◌, ◌-◌, ◌≡◌}
use Rattle.std.specs.Prelude.{slice_get}
use Rattle.arena_rules.specs.Search.{entries}
use Rattle.arena_cursor.proofs.growing.request_from.Given as goal

-- what is asked for after the refusals is what is asked for from the size tried now on, after those that are left
abbrev pub invariant-loop-tried : goal.invariant-loop-tried
invariant-loop-tried l =
    slice_get (entries 0 l.layout.size l.layout.align l.fn.first l.least) l.fn.refused
    ≡ slice_get (entries 0 l.layout.size l.layout.align l.tried l.least) l.left

abbrev pub decreases-loop-tried : goal.decreases-loop-tried
decreases-loop-tried l = l.tried + 1 - l.least
