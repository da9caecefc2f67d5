use Rattle.std.proofs.Common.{arith}
use Rattle.arena_symbols.specs.Tables.{entry_item}
use Rattle.arena_symbols.proofs.TableLemmas.{depth_is}
use Rattle.arena_symbols.proofs.scopes.Scopes.depth.Goals as goal

pub returns : goal.returns
returns c = λ memory held. omega (arith, c.saturating_add.ensures, c.len.ensures, depth_is entry_item memory c.args.self.now, held.depth)
