use Rattle.std.proofs.Common.{◌<◌, IsTrue}
use Rattle.arena_chunks.specs.Memory.{is_readable}
use Rattle.bench_arena.proofs.loops.arena.grow_round.Given as goal

abbrev pub invariant-loop-size : goal.invariant-loop-size
invariant-loop-size l = IsTrue (is_readable l.a.memory.state l.block) × l.block.size < l.size
