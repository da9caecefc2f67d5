use Rattle.std.proofs.Common.{◌+◌, ◌-◌, ◌≡◌, ◌++◌}
use Rattle.arena_rules.specs.Search.{entries}
use Rattle.plain_machine.proofs.search.entries.Given as goal

-- what is asked for so far, and the entries from the size tried now on
abbrev pub invariant-loop-tried : goal.invariant-loop-tried
invariant-loop-tried l =
    entries l.base l.layout.size l.layout.align l.fn.first l.least ≡ l.all.items
    ++ entries l.base l.layout.size l.layout.align l.tried l.least

abbrev pub decreases-loop-tried : goal.decreases-loop-tried
decreases-loop-tried l = l.tried + 1 - l.least
