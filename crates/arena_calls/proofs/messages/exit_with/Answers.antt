use Rattle.arena_calls.proofs.StreamLemmas.{in_either}
use Rattle.arena_calls.proofs.messages.exit_with.Goals as goal

pub returns-clause-said : goal.returns-clause-said
returns-clause-said g c =
    in_either c.explain.result c.explain.ensures.ok c.explain.ensures.part c.explain.ensures.no_fault c.explain.ensures.one_fault
