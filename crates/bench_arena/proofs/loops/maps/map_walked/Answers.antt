use Rattle.bench_arena.proofs.loops.maps.map_walked.Goals as goal

pub loop-key-init : goal.loop-key-init
loop-key-init c = c.new_in-other.ensures.map.held _
