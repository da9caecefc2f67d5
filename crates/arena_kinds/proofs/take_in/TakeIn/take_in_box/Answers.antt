use Rattle.std.proofs.lemmas.Result.{err_from_is_err_and}
use Rattle.arena_kinds.proofs.BoxLemmas.{takes_box, takes_none, takes_refused}
use Rattle.arena_kinds.proofs.take_in.TakeIn.take_in_box.Goals as goal

pub returns-in_err-dummy : goal.returns-in_err-dummy
returns-in_err-dummy g c =
    let p = err_from_is_err_and c.from_residual.result c.from_residual.ensures.1 in
    rw (p.1, p.2) (takes_refused g.Self.Item c.in_err-dummy.ensures)

pub returns-in_err-boxed : goal.returns-in_err-boxed
returns-in_err-boxed g c =
    let p = err_from_is_err_and c.from_residual-in_err-boxed.result c.from_residual-in_err-boxed.ensures.1 in
    rw (p.1, p.2) (takes_none g.met.Self.Dummy.lawful c.in_ok-dummy.ensures c.in_err-boxed.ensures)

pub returns : goal.returns
returns g c = takes_box g.met.Self.Dummy.lawful c.in_ok-dummy.ensures c.in_ok-boxed.ensures
