use Rattle.arena_table.proofs.SearchLemmas.{Seeking}
use Rattle.arena_table.proofs.table.Table.spot_for.Given as goal

abbrev pub invariant-slots : goal.invariant-slots
invariant-slots g l = Seeking g.K.Item g.V.Item l.self.slots l.bytes l.hash l.counter l.at l.mark
