use Rattle.std.proofs.Common.{arith}
use Rattle.arena_rules.specs.State.{used_length}
use Rattle.arena_core.proofs.StoredLemmas.{none_used, sum_has}
use Rattle.arena_core.proofs.arena.Arena.used_bytes.Goals as goal

pub used-requires-2 : goal.used-requires-2
used-requires-2 g c = omega (
  arith,
  sum_has g.row.MIN_ALIGN c.self.inside used_length c.self.invariant
      (none_used g.row.MIN_ALIGN c.self.inside c.self.invariant) (λ chunk fine. omega (arith, fine.cursor_low)),
)

pub overflow_add-result : goal.overflow_add-result
overflow_add-result g c =
    omega (
      arith,
      c.used.ensures,
      c.used-2.ensures,
      sum_has g.row.MIN_ALIGN c.self.inside used_length c.self.invariant (none_used g.row.MIN_ALIGN c.self.inside c.self.invariant)
          (λ chunk fine. omega (arith, fine.cursor_low)),
    )
