use Rattle.std.proofs.Common.{rules}
use Rattle.arena_vec.proofs.DedupLemmas.{deduped_same, callable_same}
use Rattle.arena_vec.proofs.vec.Vec.dedup_by_key.Goals as goal

pub dedup_by-requires-clause-callable : goal.dedup_by-requires-clause-callable
dedup_by-requires-clause-callable g c =
    callable_same _ _ (λ q. q.0.now) (λ s t x k y kept b e. search rules) _ _ (λ s x k can v w e f. rw (e, f) can) _ _ c.requires.callable

pub returns-clause-becomes : goal.returns-clause-becomes
returns-clause-becomes g c =
    let left = c.dedup_by.ensures.becomes in
    (left.0, deduped_same _ _ (λ q. q.0.now) (λ s t x k y kept b e. search rules) _ _ _ left.1, left.2)
