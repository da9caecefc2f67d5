use Rattle.bench_arena.proofs.loops.symbols.intern_new.Goals as goal

pub interned-requires : goal.interned-requires
interned-requires c = c.new_in-symbols.ensures.held c.args.a.now.memory
