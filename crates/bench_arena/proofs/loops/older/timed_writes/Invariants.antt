use Rattle.std.proofs.Common.{◌≤◌, IsTrue}
use Rattle.std.specs.List.{All}
use Rattle.arena_chunks.specs.Memory.{is_readable}
use Rattle.bench_arena.proofs.loops.older.timed_writes.Given as goal

abbrev pub invariant-loop : goal.invariant-loop
invariant-loop l = All (λ b. IsTrue (is_readable l.arena.state b) × (8 ≤ b.size)) l.blocks
