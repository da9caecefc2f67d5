use Rattle.std.proofs.lemmas.Bool.Decides.{nat_tests}
use Rattle.std.proofs.Common.{◌≡◌, ℕ, ◌-◌, ◌∙◌, ap, sym, subst, arith}
use Rattle.arena_rules.specs.Rounding.{up}
use Rattle.arena_rules.specs.State.{IsValid}
use Rattle.arena_rules.proofs.RoundingLemmas.{min_align_power, min_align_positive, min_align_le, layout_small, up_ge}
use Rattle.arena_store.specs.Memory.{Memory}
use Rattle.arena_core.proofs.StoredLemmas.{cursor_stored}
use Rattle.arena_rules.proofs.ResizeSteps.{IsHere, grows_not}
use Rattle.arena_core.proofs.ResizedLemmas.{resized_not}
use Rattle.arena_core.proofs.CursorMoveLemmas.{is_grown, grown_answer}
use Rattle.arena_core.proofs.arena.Arena.grow_counted.Goals as goal

pub round_up_to_unchecked-requires-clause-power : goal.round_up_to_unchecked-requires-clause-power
round_up_to_unchecked-requires-clause-power g c = min_align_power g.row.MIN_ALIGN c.self.invariant.valid.min_align

pub round_up_to_unchecked-requires-clause-fits : goal.round_up_to_unchecked-requires-clause-fits
round_up_to_unchecked-requires-clause-fits g c = grind (arith, nat_tests, layout_small, min_align_le)

pub overflow_sub-more : goal.overflow_sub-more
overflow_sub-more g c = grind (arith, nat_tests, up_ge, min_align_positive)

-- The growth isn't a valid layout.
pub returns-in_default : goal.returns-in_default
returns-in_default g c =
    let here : IsHere c.args.self.now.state c.args.block.addr c.args.block.size c.args.block.align c.args.layout.size c.args.layout.align =
    record {
      low = c.if-block-layout.false;
      at = c.if-block-self.false
          ∙ cursor_stored g.row.MIN_ALIGN c.self.inside c.args.self.now c.self.invariant c.self.view_is;
    } in
    let more : c.round_up_to_unchecked.result ≡ up c.args.layout.size c.args.self.now.state.min_align = c.round_up_to_unchecked.ensures
    ∙ ap (λ (w : Memory). up c.args.layout.size w.state.min_align) c.self.view_is in
    let way = grows_not c.args.self.now.state c.args.block.addr c.args.block.size c.args.block.align c.args.layout.size c.args.layout.align
    here (rw (← more) (sym c.in_default.ensures.valid)) in
    rw way (resized_not c.args.self.now _ c.args.block c.args.layout.size c.args.layout.align
    (subst (λ (w : Memory). IsValid w.state) c.self.view_is c.self.invariant.valid))

-- ---- Down with the cursor

pub move_down-requires : goal.move_down-requires
move_down-requires g c =
    let down = is_grown g.row.MIN_ALIGN c.self-2.inside c.args.self.now c.args.block c.args.layout.size c.args.layout.align c.in-Some.below.size
    c.in-Some.below.align c.in-Some-place.addr c.self-2.invariant c.self-2.view_is c.requires.readable (record {
      low = c.if-block-layout.false;
      at = c.if-block-self.false
          ∙ cursor_stored g.row.MIN_ALIGN c.self.inside c.args.self.now c.self.invariant c.self.view_is;
    }) (c.in-Some.ensures.value.0 ∙ ap (λ (n : ℕ). n - c.args.block.size) c.round_up_to_unchecked.ensures) c.in-Some.ensures.value.1
    c.in-Some.below.valid c.in-Some-place.ensures in
    (omega arith, down.below)

pub returns-in-Some-place : goal.returns-in-Some-place
returns-in-Some-place g c =
    let down = is_grown g.row.MIN_ALIGN c.self-2.inside c.args.self.now c.args.block c.args.layout.size c.args.layout.align c.in-Some.below.size
    c.in-Some.below.align c.in-Some-place.addr c.self-2.invariant c.self-2.view_is c.requires.readable (record {
      low = c.if-block-layout.false;
      at = c.if-block-self.false
          ∙ cursor_stored g.row.MIN_ALIGN c.self.inside c.args.self.now c.self.invariant c.self.view_is;
    }) (c.in-Some.ensures.value.0 ∙ ap (λ (n : ℕ). n - c.args.block.size) c.round_up_to_unchecked.ensures) c.in-Some.ensures.value.1
    c.in-Some.below.valid c.in-Some-place.ensures in
    grown_answer c.args.self.now c.move_down.new.self _ c.args.block c.block_of.result c.args.layout.size c.args.layout.align
    c.in-Some-place.addr down c.requires.size c.args.layout.valid c.move_down.ensures c.block_of.ensures.block
