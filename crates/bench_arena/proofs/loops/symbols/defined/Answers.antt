use Rattle.bench_arena.proofs.loops.symbols.defined.Goals as goal

pub loop-i-init : goal.loop-i-init
loop-i-init c = c.new_in-scopes.ensures.held c.args.a.now.memory
