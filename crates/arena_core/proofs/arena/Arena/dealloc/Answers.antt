use Rattle.std.proofs.lemmas.Bool.Decides.{nat_tests}
use Rattle.std.proofs.Common.{◌+◌, ◌∙◌, sym, ap, arith}
use Rattle.arena_rules.specs.State.{State}
use Rattle.arena_rules.proofs.RoundingLemmas.{min_align_power, min_align_positive, up_ge}
use Rattle.arena_rules.proofs.ReturnLemmas.{IsReturn, dealloc_elsewhere}
use Rattle.arena_core.proofs.StoredLemmas.{cursor_stored, cursor_moved, cursor_view}
use Rattle.arena_core.proofs.LastLemmas.{IsLast, is_last, last_returned, gives_back}
use Rattle.arena_core.proofs.arena.Arena.dealloc.Given.{Over}
use Rattle.arena_core.proofs.arena.Arena.dealloc.Goals as goal

pub overflow_add-block : goal.overflow_add-block
overflow_add-block g c =
    let last = is_last g.row.MIN_ALIGN c.self.inside c.args.self.now c.args.block c.self.invariant c.self.view_is c.requires
    c.if-block-self.true in
    omega (arith, last.fits)

pub round_up_to_unchecked-self-inside-requires-clause-power : goal.round_up_to_unchecked-self-inside-requires-clause-power
round_up_to_unchecked-self-inside-requires-clause-power g c = min_align_power g.row.MIN_ALIGN c.self.invariant.valid.min_align

pub round_up_to_unchecked-self-inside-requires-clause-fits : goal.round_up_to_unchecked-self-inside-requires-clause-fits
round_up_to_unchecked-self-inside-requires-clause-fits g c =
    (is_last g.row.MIN_ALIGN c.self.inside c.args.self.now c.args.block c.self.invariant c.self.view_is c.requires
    c.if-block-self.true).fits

last : (g : Over) (c : goal.After-self-1 g) → IsLast g.row.MIN_ALIGN c.args.self.now c.args.block
last g c = is_last g.row.MIN_ALIGN c.self.inside c.args.self.now c.args.block c.self.invariant c.self.view_is c.requires
    c.if-block-self.true

back : (g : Over) (c : goal.After-self-1 g)
    → IsReturn c.args.self.now.state c.args.block.addr c.args.block.size c.round_up_to_unchecked-self-inside.result
back g c = last_returned g.row.MIN_ALIGN c.args.self.now c.args.block c.round_up_to_unchecked-self-inside.result
    (last g c) c.round_up_to_unchecked-self-inside.ensures

pub invariant_of-self : goal.invariant_of-self
invariant_of-self g c =
    cursor_moved g.row.MIN_ALIGN c.self.inside c.args.self.now c.round_up_to_unchecked-self-inside.result c.self.inside.newest.bytes.low
    c.self.inside.generation c.self.inside.allocations c.self.inside.reallocations c.self.invariant c.self.view_is
    (record { low = (back g c).low; high = (back g c).high; valid = (back g c).valid }) c.self.invariant.valid.generation
    (omega (
      arith,
      c.self.invariant.ready,
      c.if-block-self.true,
      c.round_up_to_unchecked-self-inside.ensures,
      up_ge (c.args.block.addr + c.args.block.size) g.row.MIN_ALIGN
          (min_align_positive g.row.MIN_ALIGN c.self.invariant.valid.min_align),
    ))

pub returns-then-block-self : goal.returns-then-block-self
returns-then-block-self g c =
    let view = cursor_view g.row.MIN_ALIGN c.self.inside c.args.self.now c.round_up_to_unchecked-self-inside.result
    c.self.inside.newest.bytes.low c.self.view_is in
    gives_back c.args.self.now _ c.args.block (last g c).valid c.requires
    (view ∙ ap (λ (s : State). record c.args.self.now { state = s }) (sym (back g c).step))

pub returns-else-block-self : goal.returns-else-block-self
returns-else-block-self g c = grind (arith, nat_tests, dealloc_elsewhere, cursor_stored, gives_back)
