use Rattle.arena_text.specs.Builders.{IsBuilderIn}
use Rattle.bench_arena.proofs.loops.texts.string_push_str.Given as goal

abbrev pub invariant-loop : goal.invariant-loop
invariant-loop l = IsBuilderIn l.a.memory l.text
