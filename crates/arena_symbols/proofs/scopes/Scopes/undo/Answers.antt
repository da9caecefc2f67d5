use Rattle.std.proofs.Common.{◌-◌, sym, subst, arith}
use Rattle.arena_symbols.specs.Tables.{entry_item}
use Rattle.arena_symbols.specs.TableCalls.{Cuts}
use Rattle.arena_symbols.specs.declared.scopes.Scopes.{Scopes}
use Rattle.arena_symbols.proofs.UndoLemmas.{is_there, undone}
use Rattle.arena_symbols.proofs.scopes.Scopes.undo.Goals as goal

pub unhide-requires-clause-there : goal.unhide-requires-clause-there
unhide-requires-clause-there g c =
    is_there c.args.a.now _ c.requires.held (omega (arith, c.len-last.ensures, c.requires.inner)) c.get-entry.ensures c.known.ensures.0

pub returns : goal.returns
returns g c =
    let cut = (rw c.len-last.ensures at c.truncate.ensures).becomes c.args.a.now c.requires.held.pairs in
    subst (λ (t : Scopes). Cuts entry_item c.args.a.now c.unhide.new.a c.args.self.now t (c.args.self.now.pairs.raw.len - 1))
    (sym c.unhide.ensures.rest) (undone c.args.a.now _ c.requires.held (omega (arith, c.requires.inner))
    (rw c.len-last.ensures at c.get-entry.ensures) c.known.ensures.0 _ _ _ c.requires.inner cut c.unhide.ensures.unhides)
