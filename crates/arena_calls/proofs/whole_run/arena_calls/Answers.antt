use Rattle.arena_calls.proofs.StatusLemmas.{generated_ends}
use Rattle.arena_calls.proofs.whole_run.arena_calls.Goals as goal

pub returns-in-Some-Gen : goal.returns-in-Some-Gen
returns-in-Some-Gen g c = generated_ends c.args.words.now c.in-Some-Gen.start c.in-Some-Gen.count
    _ _ _ (rw c.in-Some-Gen.field-0-is at c.in-Some-Gen.ensures) (c.run_generated.ensures _ _)
