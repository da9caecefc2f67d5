use Rattle.std.proofs.Common.{arith, ◌∙◌}
use Rattle.arena_rules.specs.State.{used_length}
use Rattle.arena_store.specs.Stored.{stored_chunk}
use Rattle.arena_store.specs.declared.chunk.StoredChunk.{StoredChunk}
use Rattle.arena_store.specs.declared.table.Kept.{Kept}
use Rattle.arena_store.proofs.KeptLemmas.{sum_next, sum_whole}
use Rattle.arena_store.proofs.table.Table.used.Goals as goal

pub overflow_add-used : goal.overflow_add-used
overflow_add-used c =
    let next = sum_next (λ (x : StoredChunk). used_length (stored_chunk x)) (λ (k : Kept). k.used) (λ b k fine. omega (arith, fine))
    _ _ _ _ c.self.invariant c.self.view_is _ c.deref-kept-items.ensures.value c.loop-kept.kept-index c.kept-item.result
    c.loop-kept-test.true c.kept-item.is in
    omega (arith, next, c.loop-kept.invariant, c.requires)

pub returns : goal.returns
returns c =
    c.loop-kept.invariant
    ∙ sum_whole (λ (x : StoredChunk). used_length (stored_chunk x)) (λ (k : Kept). k.used) (λ b k fine. omega (arith, fine))
    _ _ _ _ c.self.invariant c.self.view_is _ c.deref-kept-items.ensures.value c.loop-kept.kept-index c.loop-kept-test.false
