use Rattle.std.proofs.Common.{arith}
use Rattle.arena_store.proofs.KeptLemmas.{items_length}
use Rattle.arena_store.proofs.table.Table.len.Goals as goal

pub returns-clause-value : goal.returns-clause-value
returns-clause-value c = omega (arith, c.len.ensures, c.self.inside.kept.ok.0, items_length _ _ _ _ c.self.invariant c.self.view_is)
