use Rattle.std.proofs.Common.{arith}
use Rattle.arena_bits.proofs.JoinLemmas.{joining_row}
use Rattle.arena_bits.proofs.whole.join_rows.Goals as goal

pub rows-preserved : goal.rows-preserved
rows-preserved g c = (
  omega (arith, c.min-at.ensures),
  joining_row _ _ _ c.args.set.now c.args.other.now c.rows.done c.rows.invariant.1 c.requires.apart c.write_with.ensures.source g.row.N
      c.min-at.result c.row_at-row.result (rw c.bytes.ensures.words at c.row_at-row.ensures) c.write_with.ensures.edits
      (omega (arith, c.min-at.ensures)) (omega (arith, c.min-at.ensures)) (omega (arith, c.min-at.ensures)),
)
