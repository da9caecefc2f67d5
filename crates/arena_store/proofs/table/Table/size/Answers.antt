use Rattle.std.proofs.Common.{arith, refl, ◌∙◌, length}
use Rattle.arena_store.specs.declared.chunk.StoredChunk.{StoredChunk}
use Rattle.arena_store.specs.declared.table.Kept.{Kept}
use Rattle.arena_store.proofs.KeptLemmas.{sum_next, sum_whole}
use Rattle.arena_store.proofs.table.Table.size.Goals as goal

pub overflow_add-size : goal.overflow_add-size
overflow_add-size c =
    let next = sum_next (λ (x : StoredChunk). length x.bytes.items) (λ (k : Kept). length k.bytes.items) (λ b k fine. refl)
    _ _ _ _ c.self.invariant c.self.view_is _ c.deref-kept-items.ensures.value c.loop-kept.kept-index c.kept-item.result
    c.loop-kept-test.true c.kept-item.is in
    omega (arith, next, c.loop-kept.invariant, c.len.ensures.value, c.requires)

pub returns : goal.returns
returns c =
    c.loop-kept.invariant
    ∙ sum_whole (λ (x : StoredChunk). length x.bytes.items) (λ (k : Kept). length k.bytes.items) (λ b k fine. refl)
    _ _ _ _ c.self.invariant c.self.view_is _ c.deref-kept-items.ensures.value c.loop-kept.kept-index c.loop-kept-test.false
