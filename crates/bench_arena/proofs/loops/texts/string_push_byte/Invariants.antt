use Rattle.arena_text.specs.Builders.{IsBuilderIn}
use Rattle.bench_arena.proofs.loops.texts.string_push_byte.Given as goal

abbrev pub invariant-loop-i : goal.invariant-loop-i
invariant-loop-i l = IsBuilderIn l.a.memory l.text
