use Rattle.std.proofs.Common.{◌+◌, ◌<◌, ◌≤◌, sym, subst}
use Rattle.arena_rules.specs.State.{top_of}
use Rattle.call_rules.specs.Machine.{Machine}
use Rattle.plain_machine.proofs.HoldingLemmas.{end_insert}
use Rattle.plain_machine.proofs.machine.PlainMachine.holds.Goals as goal

pub invariant_of-self-2 : goal.invariant_of-self-2
invariant_of-self-2 c =
    let end = subst (λ (m : Machine). 0 < c.args.place.size → c.args.place.addr + c.args.place.size ≤ top_of m.state.chunks)
    (sym c.self.view_is) c.requires in
    rw c.in_ok-insert-2.ensures.ok (
      end_insert (top_of c.self.inside.state.chunks) c.self.inside.held c.args.name c.args.place c.self.invariant.0 end,
      c.self.invariant.1,
    )
