use Rattle.arena_symbols.specs.Tables.{entry_item, IsTableIn}
use Rattle.bench_arena.proofs.loops.symbols.defined.Given as goal

abbrev pub invariant-loop-i : goal.invariant-loop-i
invariant-loop-i l = IsTableIn entry_item l.a.memory l.scopes
