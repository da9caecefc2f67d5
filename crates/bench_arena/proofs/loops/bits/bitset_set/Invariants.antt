use Rattle.std.proofs.Common.{◌≡◌}
use Rattle.arena_bits.specs.Sets.{IsSetIn}
use Rattle.bench_arena.proofs.loops.bits.bitset_set.Given as goal

abbrev pub invariant-loop : goal.invariant-loop
invariant-loop l = IsSetIn l.a.memory l.set × (l.set.capacity ≡ l.calls) × (l.scattered.limit ≡ l.calls)
