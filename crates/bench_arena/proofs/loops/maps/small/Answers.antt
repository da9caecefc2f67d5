use Rattle.bench_arena.proofs.loops.maps.small.Goals as goal

pub loop-k-init : goal.loop-k-init
loop-k-init c = c.new_in-map.ensures.map.held c.loop-i.a.memory
