use Rattle.std.proofs.lemmas.Bool.Decides.{nat_tests}
use Rattle.std.proofs.Common.{arith}
use Rattle.std.proofs.lemmas.Result.{err_from_is_err_and}
use Rattle.arena_symbols.proofs.CallLemmas.{ran_next, stops_refused, stops_unheard}
use Rattle.arena_symbols.proofs.names.Names.run.Goals as goal

pub loop-call-preserved : goal.loop-call-preserved
loop-call-preserved g c =
    rw (c.push_reserved.ensures.items, c.reserve.ensures.items)
    (ran_next c.args.calls.now c.loop-call.call-index _ (omega arith) c.loop-call.invariant c.in_ok-reply.ensures)

pub returns-in_err-reply-clause-err : goal.returns-in_err-reply-clause-err
returns-in_err-reply-clause-err g c =
    let p = err_from_is_err_and c.from_residual.result c.from_residual.ensures.1 in
    rw (p.1, p.2, c.reserve.ensures.items)
    (stops_refused c.args.calls.now c.loop-call.call-index _ (omega arith) c.loop-call.invariant c.in_err-reply.ensures)

pub returns-then-is_err-clause-err : goal.returns-then-is_err-clause-err
returns-then-is_err-clause-err g c = grind (arith, nat_tests, stops_unheard)

pub push_reserved-requires : goal.push_reserved-requires
push_reserved-requires g c = grind (arith, c.reserve.ensures, c.is_err.ensures.value, c.if-is_err.false)

pub returns-then-is_err-clause-held : goal.returns-then-is_err-clause-held
returns-then-is_err-clause-held g c = c.loop-call.invariant.moves.held

pub returns-in_err-reply-clause-held : goal.returns-in_err-reply-clause-held
returns-in_err-reply-clause-held g c = c.in_err-reply.ensures.moves.held
