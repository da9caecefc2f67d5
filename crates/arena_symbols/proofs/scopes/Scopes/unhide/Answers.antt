use Rattle.arena_symbols.proofs.UndoLemmas.{unhide_some, unhide_none}
use Rattle.arena_symbols.proofs.scopes.Scopes.unhide.Goals as goal

pub returns-in-Some-clause-unhides : goal.returns-in-Some-clause-unhides
returns-in-Some-clause-unhides g c = rw c.in-Some.is (unhide_some c.requires.there c.in-Some.at c.insert.result c.insert.ensures)

pub returns-in-None-clause-unhides : goal.returns-in-None-clause-unhides
returns-in-None-clause-unhides g c = rw c.in-None.is (unhide_none c.requires.there c.remove.result c.remove.ensures)
