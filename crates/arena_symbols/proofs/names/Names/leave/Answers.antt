use Rattle.arena_symbols.proofs.NamedLemmas.{scopes_moved}
use Rattle.arena_symbols.proofs.names.Names.leave.Goals as goal

pub returns-clause-moves : goal.returns-clause-moves
returns-clause-moves g c = (scopes_moved c.requires _ c.leave.ensures.held c.leave.ensures.frame).0
