use Rattle.arena_text.specs.Builders.{IsBuilderIn}
use Rattle.bench_arena.proofs.loops.texts.in_front.Given as goal

abbrev pub invariant-loop-k : goal.invariant-loop-k
invariant-loop-k l = IsBuilderIn l.a.memory l.text
