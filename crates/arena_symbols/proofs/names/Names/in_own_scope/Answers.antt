use Rattle.std.proofs.Common.{ap, ◌∙◌, arith}
use Rattle.std.proofs.lemmas.Result.{err_from_is_err_and}
use Rattle.arena_symbols.specs.Scoping.{outer_of}
use Rattle.arena_symbols.specs.Tables.{entry_item}
use Rattle.arena_symbols.proofs.NamedLemmas.{moves_then, outer_long, unscoped, scoped}
use Rattle.arena_symbols.proofs.TableLemmas.{depth_is}
use Rattle.arena_symbols.proofs.names.Names.in_own_scope.Goals as goal

pub returns-clause-after : goal.returns-clause-after
returns-clause-after g c =
    let outer = c.declared-found.ensures.outer ∙ ap outer_of c.in_ok-enter.ensures.scopes in
    c.leave.ensures.scopes (outer_long _ (rw outer (omega (arith, depth_is entry_item c.args.a.now.memory c.args.self.now.scopes)))) ∙ outer

pub returns-clause-frame : goal.returns-clause-frame
returns-clause-frame g c =
    (moves_then (moves_then c.in_ok-enter.ensures.moves c.declared-found.ensures.moves) c.leave.ensures.moves).frame

pub returns-in_err-enter-clause-within : goal.returns-in_err-enter-clause-within
returns-in_err-enter-clause-within g c =
    let p = err_from_is_err_and c.from_residual.result c.from_residual.ensures.1 in
    rw (p.1, p.2) (unscoped c.args.name.now _ c.in_err-enter.ensures.overflows c.in_err-enter.ensures.pays)

pub returns-clause-within : goal.returns-clause-within
returns-clause-within g c =
    let entered = c.in_ok-enter.ensures in
    let ended = c.leave.ensures in
    scoped c.args.name.now c.declared-found.result entered.moves (λ deep. let no = entered.overflows.1 deep in cc) entered.names
    entered.scopes entered.pays c.declared-found.ensures.within ended.names ended.places ended.credit
