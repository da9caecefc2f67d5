use Rattle.arena_symbols.specs.Names.{IsInternerIn}
use Rattle.bench_arena.proofs.loops.symbols.interned.Given as goal

abbrev pub invariant-loop-text : goal.invariant-loop-text
invariant-loop-text l = IsInternerIn l.a.memory l.symbols
