use Rattle.arena_core.proofs.AllocationLemmas.{placed_at_cursor}
use Rattle.arena_core.proofs.arena.Arena.alloc_below.Goals as goal

pub returns-in-Ok : goal.returns-in-Ok
returns-in-Ok g c =
    let found = c.in-Ok.ensures.found in
    placed_at_cursor c.args.self.now c.place_at.new.self _ _ c.args.layout.size c.args.layout.align c.in-Ok.refused c.in-Ok.addr found.valid
    c.args.layout.valid (rw c.place_at.ensures found.placing) found.asked
