use Rattle.std.proofs.Common.{◌≡◌}
use Rattle.arena_bits.specs.Sets.{IsSetIn}
use Rattle.bench_arena.proofs.loops.bits.bitset_set_ascending.Given as goal

abbrev pub invariant-loop-bit : goal.invariant-loop-bit
invariant-loop-bit l = IsSetIn l.a.memory l.set × (l.set.capacity ≡ l.calls)
