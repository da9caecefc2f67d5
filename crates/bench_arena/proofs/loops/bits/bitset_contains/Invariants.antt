use Rattle.std.proofs.Common.{◌≡◌}
use Rattle.bench_arena.proofs.loops.bits.bitset_contains.Given as goal

abbrev pub invariant-loop : goal.invariant-loop
invariant-loop l = l.scattered.limit ≡ l.calls
