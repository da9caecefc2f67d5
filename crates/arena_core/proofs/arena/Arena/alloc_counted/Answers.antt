use Rattle.std.proofs.Common.{◌∙◌, ap, subst, arith}
use Rattle.arena_rules.specs.State.{IsValid}
use Rattle.arena_store.specs.Memory.{Memory}
use Rattle.arena_store.proofs.AskedLemmas.{asked_none}
use Rattle.arena_core.proofs.StoredLemmas.{place_ready, cursor_moved}
use Rattle.arena_core.proofs.AllocationLemmas.{place_cursor, placed_view, placing_here, block_placed}
use Rattle.arena_core.proofs.arena.Arena.alloc_counted.Goals as goal

-- ---- In the ready part of the newest chunk

pub invariant_of-self : goal.invariant_of-self
invariant_of-self g c =
    let found = place_ready g.row.MIN_ALIGN c.self.inside c.args.self.now c.args.layout.size c.args.layout.align c.in-Some.addr
    c.self.invariant c.self.view_is (rw c.floor.ensures at c.in-Some.ensures) in
    let valid = subst (λ (w : Memory). IsValid w.state) c.self.view_is c.self.invariant.valid in
    cursor_moved g.row.MIN_ALIGN c.self.inside c.args.self.now c.in-Some.addr c.self.inside.newest.bytes.low c.self.inside.generation
    c.count_one.new.count c.self.inside.reallocations c.self.invariant c.self.view_is
    (place_cursor c.args.self.now.state c.args.layout.size c.args.layout.align c.in-Some.addr valid c.args.layout.valid found.0)
    c.self.invariant.valid.generation found.1

pub returns-in-Some : goal.returns-in-Some
returns-in-Some g c =
    let found = place_ready g.row.MIN_ALIGN c.self.inside c.args.self.now c.args.layout.size c.args.layout.align c.in-Some.addr
    c.self.invariant c.self.view_is (rw c.floor.ensures at c.in-Some.ensures) in
    let view = placed_view g.row.MIN_ALIGN c.self.inside c.args.self.now c.in-Some.addr c.self.inside.newest.bytes.low c.count_one.new.count
    c.self.view_is (omega arith) in
    block_placed c.args.self.now _ _ _ c.args.layout.size c.args.layout.align 0 c.in-Some.addr c.block_of.result
    (subst (λ (w : Memory). IsValid w.state) c.self.view_is c.self.invariant.valid) c.args.layout.valid
    (rw view (placing_here c.args.self.now c.args.layout.size c.args.layout.align c.in-Some.addr found.0)) (rw found.0 (asked_none _))
    (c.block_of.ensures.block ∙ ap (λ (w : Memory). record {
      generation = w.state.generation;
      addr = c.in-Some.addr;
      size = c.args.layout.size;
      align = c.args.layout.align;
    }) c.self.view_is)
