use Rattle.std.proofs.Common.{◌≤◌}
use Rattle.arena_symbols.specs.Tables.{entry_item}
use Rattle.arena_symbols.specs.TableCalls.{Cuts}
use Rattle.arena_symbols.proofs.scopes.Scopes.cut.Given as goal

abbrev pub invariant-pairs : goal.invariant-pairs
invariant-pairs g l = Cuts entry_item l.fn.a l.a l.fn.self l.self l.self.pairs.raw.len × (l.start ≤ l.self.pairs.raw.len)

abbrev pub decreases-pairs : goal.decreases-pairs
decreases-pairs g l = l.self.pairs.raw.len
