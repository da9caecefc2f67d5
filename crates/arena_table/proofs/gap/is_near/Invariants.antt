use Rattle.std.proofs.Common.{◌<◌}
use Rattle.arena_table.proofs.GapLemmas.{NearTo}
use Rattle.arena_table.proofs.gap.is_near.Given as goal

abbrev pub invariant-slots : goal.invariant-slots
invariant-slots l = NearTo l.slots l.bytes l.at l.counter l.gap × (l.gap < l.slots)
