use Rattle.std.proofs.Common.{◌≡◌}
use Rattle.bench_arena.proofs.loops.pool.fn.claim_threads.scope.Given as goal

abbrev pub invariant-loop-i : goal.invariant-loop-i
invariant-loop-i l = l.seat.table ≡ l.claims
