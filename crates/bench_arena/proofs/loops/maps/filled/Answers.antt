use Rattle.bench_arena.proofs.loops.maps.filled.Goals as goal

pub loop-i-init : goal.loop-i-init
loop-i-init c = c.new_in-map.ensures.map.held c.args.a.now.memory
