use Rattle.std.proofs.Common.{subst}
use Rattle.arena_rules.specs.State.{IsValid}
use Rattle.arena_store.specs.Memory.{Memory}
use Rattle.arena_core.proofs.StoredLemmas.{cursor_moved}
use Rattle.arena_core.proofs.AllocationLemmas.{place_cursor}
use Rattle.arena_core.proofs.arena.Arena.place_at.Goals as goal

pub invariant_of-self : goal.invariant_of-self
invariant_of-self g c =
    let valid = subst (λ (w : Memory). IsValid w.state) c.self.view_is c.self.invariant.valid in
    let moved = c.set_cursor.ensures in
    rw moved.chunk (cursor_moved g.row.MIN_ALIGN c.self.inside c.args.self.now c.args.addr moved.low c.self.inside.generation
    c.count_one.new.count c.self.inside.reallocations c.self.invariant c.self.view_is
    (place_cursor c.args.self.now.state c.args.layout.size c.args.layout.align c.args.addr valid c.args.layout.valid c.requires)
    c.self.invariant.valid.generation moved.ready)
