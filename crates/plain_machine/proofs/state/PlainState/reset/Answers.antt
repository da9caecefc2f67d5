use Rattle.arena_rules.proofs.ResetLemmas.{reset_valid}
use Rattle.plain_machine.specs.Answers.{growing_state}
use Rattle.plain_machine.proofs.state.PlainState.reset.Goals as goal

pub invariant_of-self : goal.invariant_of-self
invariant_of-self c =
    rw (c.keep_newest.ensures, c.saturating_add-self-inside.ensures)
    (reset_valid (growing_state c.self.inside.min_align c.self.inside.generation c.self.inside.chunks.items) c.self.invariant)
