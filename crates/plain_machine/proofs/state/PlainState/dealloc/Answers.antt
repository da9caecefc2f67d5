use Rattle.std.proofs.Common.{◌+◌, ◌∙◌, ap, subst}
use Rattle.arena_rules.specs.Rounding.{up}
use Rattle.arena_rules.specs.State.{State, IsValid}
use Rattle.arena_rules.proofs.RoundingLemmas.{min_align_power}
use Rattle.arena_rules.proofs.ReturnLemmas.{is_return}
use Rattle.plain_machine.proofs.ResizeLemmas.{block_top}
use Rattle.plain_machine.proofs.state.PlainState.dealloc.Goals as goal

pub round_up_to_unchecked-end-requires-clause-power :
    goal.round_up_to_unchecked-end-requires-clause-power
round_up_to_unchecked-end-requires-clause-power c = min_align_power c.self.inside.min_align c.self.invariant.min_align

pub set_cursor-requires : goal.set_cursor-requires
set_cursor-requires c =
    let at = c.if-addr-cursor.true ∙ c.cursor.ensures in
    let end = c.round_up_to_unchecked-end.ensures ∙ ap (λ (s : State). up (c.args.addr + c.args.size) s.min_align) c.self.view_is in
    let valid = subst IsValid c.self.view_is c.self.invariant in
    let top = block_top c.args.self.now c.args.addr c.args.size valid at c.requires in
    (is_return c.args.self.now c.args.addr c.args.size c.round_up_to_unchecked-end.result valid at top end).valid
