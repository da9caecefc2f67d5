use Rattle.std.proofs.Common.{◌∙◌, ap, is_some}
use Rattle.arena_symbols.proofs.Layers.{texts_moved}
use Rattle.arena_lint.proofs.KnownLemmas.{define_moves, define_means}
use Rattle.arena_lint.proofs.SpendingLemmas.{err_takes}
use Rattle.arena_lint.proofs.StoppingLemmas.{err_goes, unnamed_goes, define_goes}
use Rattle.arena_lint.proofs.TakingLemmas.{unnamed_takes, define_takes}
use Rattle.arena_lint.proofs.walk.define_name.Goals as goal

pub returns-in_err-id-clause-moves : goal.returns-in_err-id-clause-moves
returns-in_err-id-clause-moves g c = (texts_moved c.requires.known c.intern.ensures).0

pub returns-in_err-id-clause-takes : goal.returns-in_err-id-clause-takes
returns-in_err-id-clause-takes g c =
    err_takes c.from_residual.result c.from_residual.ensures (unnamed_takes c.in_err-id.ensures)

pub returns-in_err-id-clause-goes : goal.returns-in_err-id-clause-goes
returns-in_err-id-clause-goes g c =
    err_goes c.from_residual.result c.from_residual.ensures (unnamed_goes c.requires.known c.in_err-id.ensures)

pub lookup-requires : goal.lookup-requires
lookup-requires g c = (texts_moved c.requires.known c.intern.ensures).0.held.scopes

pub define-requires : goal.define-requires
define-requires g c = (texts_moved c.requires.known c.intern.ensures).0.held.scopes

pub returns-in_err-is_new-clause-moves : goal.returns-in_err-is_new-clause-moves
returns-in_err-is_new-clause-moves g c = define_moves c.requires.known c.in_ok-id.ensures c.define.ensures

pub returns-in_err-is_new-clause-takes : goal.returns-in_err-is_new-clause-takes
returns-in_err-is_new-clause-takes g c = err_takes c.from_residual-in_err-is_new.result c.from_residual-in_err-is_new.ensures
    (define_takes c.requires.known c.in_ok-id.ensures c.in_err-is_new.ensures)

pub returns-in_err-is_new-clause-goes : goal.returns-in_err-is_new-clause-goes
returns-in_err-is_new-clause-goes g c = err_goes c.from_residual-in_err-is_new.result c.from_residual-in_err-is_new.ensures
    (define_goes c.requires.known c.in_ok-id.ensures c.in_err-is_new.ensures)

pub returns : goal.returns
returns g c = record {
  moves = define_moves c.requires.known c.in_ok-id.ensures c.define.ensures;
  means = λ sets knows. rw c.finding.ensures (define_means c.requires.known c.in_ok-id.ensures c.in_ok-is_new.ensures
      (c.is_some-is_seen.ensures ∙ ap is_some c.lookup.ensures) sets knows);
  takes = define_takes c.requires.known c.in_ok-id.ensures c.in_ok-is_new.ensures;
  goes = define_goes c.requires.known c.in_ok-id.ensures c.in_ok-is_new.ensures;
}
