use Rattle.std.proofs.Common.{◌≡◌, Some, sym, ◌∙◌, subst}
use Rattle.arena_rules.specs.State.{IsValid}
use Rattle.arena_rules.specs.Back.{back}
use Rattle.call_rules.specs.Machine.{mark_named}
use Rattle.plain_machine.proofs.HoldingLemmas.{end_left}
use Rattle.plain_machine.proofs.MarkLemmas.{marks_back}
use Rattle.plain_machine.proofs.machine.PlainMachine.back.Goals as goal

pub back-requires : goal.back-requires
back-requires c =
    let found : mark_named c.self.inside.marks.items c.args.name ≡ Some c.in-Some.mark =
    rw c.deref.ensures.value at (sym c.mark_named.ensures ∙ c.in-Some.is) in
    (marks_back c.self.inside.state _ c.self.inside.marks.items c.args.name c.in-Some.mark c.self.invariant.1 found).0

pub invariant_of-self : goal.invariant_of-self
invariant_of-self c =
    let found : mark_named c.self.inside.marks.items c.args.name ≡ Some c.in-Some.mark =
    rw c.deref.ensures.value at (sym c.mark_named.ensures ∙ c.in-Some.is) in
    rw (c.keep_used.ensures, c.keep_to.ensures, c.back.ensures.state) (
      end_left (back c.in-Some.mark c.self.inside.state) c.self.inside.held (subst IsValid c.back.ensures.state c.back.ensures.valid),
      (marks_back c.self.inside.state _ c.self.inside.marks.items c.args.name c.in-Some.mark c.self.invariant.1 found).1,
    )
