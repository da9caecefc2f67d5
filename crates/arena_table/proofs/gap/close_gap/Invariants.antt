use Rattle.arena_table.proofs.GapLemmas.{Gap}
use Rattle.arena_table.proofs.gap.close_gap.Given as goal

abbrev pub invariant-slots : goal.invariant-slots
invariant-slots g l = Gap g.K.Item g.V.Item l.slots l.at l.fn.bytes l.counter l.bytes l.gap
