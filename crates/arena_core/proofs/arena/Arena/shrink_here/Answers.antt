use Rattle.std.proofs.lemmas.Bool.Decides.{nat_tests}
use Rattle.std.proofs.Common.{◌∙◌, ap, sym, inl, inr, arith}
use Rattle.arena_rules.specs.Statistics.{one_reallocation}
use Rattle.arena_rules.proofs.RoundingLemmas.{max_power, min_align_power, layout_power}
use Rattle.arena_store.specs.Memory.{Memory}
use Rattle.arena_rules.proofs.CursorLemmas.{cursor_within}
use Rattle.arena_core.proofs.StoredLemmas.{cursor_stored}
use Rattle.arena_core.proofs.ReadableLemmas.{readable_part}
use Rattle.arena_rules.proofs.ResizeSteps.{shrinks_still, shrinks_up}
use Rattle.arena_core.proofs.CursorMoveLemmas.{is_shrunk, shrunk, shrunk_still, shrunk_up}
use Rattle.arena_core.proofs.arena.Arena.shrink_here.Goals as goal

-- ---- In place

pub returns-then-block-self : goal.returns-then-block-self
returns-then-block-self g c =
    rw c.block_of.ensures.block (shrunk_still c.args.self.now c.args.block c.args.layout.size c.args.layout.align c.block_of.ensures.valid
    c.requires.readable c.requires.size
    (shrinks_still c.args.self.now.state c.args.block.addr c.args.block.size c.args.block.align c.args.layout.size c.args.layout.align
    c.requires.align
    (inl (λ same. c.if-block-self.true (same
    ∙ sym (cursor_stored g.row.MIN_ALIGN c.self.inside c.args.self.now c.self.invariant c.self.view_is))))))

pub round_down_to-delta-requires : goal.round_down_to-delta-requires
round_down_to-delta-requires g c = grind (arith, nat_tests, max_power, layout_power, min_align_power)

pub overflow_sub-block-2 : goal.overflow_sub-block-2
overflow_sub-block-2 g c =
    let up = is_shrunk g.row.MIN_ALIGN c.self.inside c.args.self.now c.args.block c.args.layout.size c.args.layout.align c.max.result
    c.round_down_to-delta.result
    c.self.invariant c.self.view_is c.requires.readable c.if-block-self.false c.requires.size c.args.layout.valid c.max.ensures
    c.round_down_to-delta.ensures in
    omega (arith, up.fits)

pub returns-then-delta-block : goal.returns-then-delta-block
returns-then-delta-block g c =
    let up = is_shrunk g.row.MIN_ALIGN c.self.inside c.args.self.now c.args.block c.args.layout.size c.args.layout.align c.max.result
    c.round_down_to-delta.result
    c.self.invariant c.self.view_is c.requires.readable c.if-block-self.false c.requires.size c.args.layout.valid c.max.ensures
    c.round_down_to-delta.ensures in
    rw c.block_of-then-delta-block.ensures.block
    (shrunk_still c.args.self.now c.args.block c.args.layout.size c.args.layout.align c.block_of-then-delta-block.ensures.valid
    c.requires.readable c.requires.size
    (shrinks_still c.args.self.now.state c.args.block.addr c.args.block.size c.args.block.align c.args.layout.size c.args.layout.align
    c.requires.align (inr (omega (arith, up.step, c.if-delta-block.true)))))

-- ---- Up

pub overflow_add-addr : goal.overflow_add-addr
overflow_add-addr g c =
    let up = is_shrunk g.row.MIN_ALIGN c.self.inside c.args.self.now c.args.block c.args.layout.size c.args.layout.align c.max.result
    c.round_down_to-delta.result
    c.self.invariant c.self.view_is c.requires.readable c.if-block-self.false c.requires.size c.args.layout.valid c.max.ensures
    c.round_down_to-delta.ensures in
    omega (arith, up.fits, up.last.fits)

pub move_in_newest-requires : goal.move_in_newest-requires
move_in_newest-requires g c =
    let up = is_shrunk g.row.MIN_ALIGN c.self.inside c.args.self.now c.args.block c.args.layout.size c.args.layout.align c.max.result
    c.round_down_to-delta.result
    c.self.invariant c.self.view_is c.requires.readable c.if-block-self.false c.requires.size c.args.layout.valid c.max.ensures
    c.round_down_to-delta.ensures in
    let part = readable_part c.args.self.now.state c.args.block in (
      omega arith,
      (
        λ some. part _ _ c.requires.readable (omega arith) (omega (arith, c.requires.size)) some,
        (
          λ some. part _ _ c.requires.readable (omega arith) (omega (arith, up.fits)) some,
          λ some. (omega (arith, up.last.at, cursor_within c.args.self.now.state up.last.valid), up.low),
        ),
      ),
    )

pub move_cursor-requires : goal.move_cursor-requires
move_cursor-requires g c =
    let up = is_shrunk g.row.MIN_ALIGN c.self.inside c.args.self.now c.args.block c.args.layout.size c.args.layout.align c.max.result
    c.round_down_to-delta.result
    c.self.invariant c.self.view_is c.requires.readable c.if-block-self.false c.requires.size c.args.layout.valid c.max.ensures
    c.round_down_to-delta.ensures in
    rw c.move_in_newest.ensures.state (omega arith, (omega (arith, up.last.at), (omega (arith, up.fits, up.last.ends), up.aligned)))

pub returns : goal.returns
returns g c =
    let up = is_shrunk g.row.MIN_ALIGN c.self.inside c.args.self.now c.args.block c.args.layout.size c.args.layout.align c.max.result
    c.round_down_to-delta.result
    c.self.invariant c.self.view_is c.requires.readable c.if-block-self.false c.requires.size c.args.layout.valid c.max.ensures
    c.round_down_to-delta.ensures in
    let moves = shrunk g.row.MIN_ALIGN c.args.self.now c.move_in_newest.new.self c.move_cursor.new.self c.args.block c.args.layout.size
    c.args.layout.align c.round_down_to-delta.result up
    c.move_in_newest.ensures.state c.move_in_newest.ensures.bytes c.move_cursor.ensures in
    let way = shrinks_up c.args.self.now.state c.args.block.addr c.args.block.size c.args.block.align c.args.layout.size c.args.layout.align
    c.requires.align up.last.at (omega (arith, up.step, up.fits, c.if-delta-block.false)) in
    rw (c.block_of-shrunk.ensures.block, way, ← up.step)
    (shrunk_up _ _ c.args.block c.args.layout.size c.args.layout.align _ moves c.requires.size
    (ap (λ (w : Memory). w.statistics) c.move_cursor.ensures ∙ ap one_reallocation c.move_in_newest.ensures.statistics))
