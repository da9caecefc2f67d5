use Rattle.std.proofs.Common.{◌≡◌}
use Rattle.bench_arena.proofs.loops.older.write_round.Given as goal

abbrev pub invariant-loop-n : goal.invariant-loop-n
invariant-loop-n l = l.arena.state ≡ l.fn.arena.state
