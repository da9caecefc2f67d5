use Rattle.std.proofs.Common.{arith, ap, length}
use Rattle.arena_rules.specs.State.{Chunk}
use Rattle.arena_core.proofs.StoredLemmas.{sum_has}
use Rattle.arena_core.proofs.arena.Arena.allocated_bytes.Goals as goal

pub size-requires-2 : goal.size-requires-2
size-requires-2 g c = omega (
  arith,
  sum_has g.row.MIN_ALIGN c.self.inside (λ (chunk : Chunk). chunk.size) c.self.invariant
      (λ none. ap length (c.self.invariant.none none).bytes) (λ chunk fine. omega arith),
)

pub overflow_add-result : goal.overflow_add-result
overflow_add-result g c =
    omega (
      arith,
      c.size.ensures,
      c.size-2.ensures,
      sum_has g.row.MIN_ALIGN c.self.inside (λ (chunk : Chunk). chunk.size) c.self.invariant
          (λ none. ap length (c.self.invariant.none none).bytes) (λ chunk fine. omega arith),
    )
