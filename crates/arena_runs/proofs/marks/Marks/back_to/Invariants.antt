use Rattle.std.proofs.Common.{◌≡◌, ◌<◌, ◌≤◌, length}
use Rattle.arena_runs.proofs.Known.{IsEnding}
use Rattle.arena_runs.proofs.marks.Marks.back_to.Given as goal

abbrev pub invariant-loop-count : goal.invariant-loop-count
invariant-loop-count l = record {
  list : l.self-inside.list.items ≡ l.initial.self-inside.list.items;
  log : l.self-inside.log.items ≡ l.initial.self-inside.log.items;
  some : 0 < l.count;
  within : l.count ≤ length l.self-inside.list.items;
  ending : IsEnding l.self-inside.known l.self-inside.list.items l.count l.name;
}

abbrev pub decreases-loop-count : goal.decreases-loop-count
decreases-loop-count l = l.count
