use Rattle.std.proofs.Common.{arith}
use Rattle.std.proofs.lemmas.Result.{err_from_is_err_and}
use Rattle.arena_symbols.proofs.CallLemmas.{serves_intern, serves_enter, serves_define, serves_leave}
use Rattle.arena_symbols.proofs.names.Names.serve.Goals as goal

pub returns-in_err-id-in-Intern : goal.returns-in_err-id-in-Intern
returns-in_err-id-in-Intern g c =
    let p = err_from_is_err_and c.from_residual.result c.from_residual.ensures.1 in
    rw (p.1, p.2, c.in-Intern.is) (serves_intern c.requires c.in-Intern.text (omega arith) c.in_err-id-in-Intern.ensures)

pub returns-in_ok-id-in-Intern : goal.returns-in_ok-id-in-Intern
returns-in_ok-id-in-Intern g c =
    rw c.in-Intern.is (serves_intern c.requires c.in-Intern.text (omega arith) c.in_ok-id-in-Intern.ensures)

pub returns-in_err-enter-in-Enter : goal.returns-in_err-enter-in-Enter
returns-in_err-enter-in-Enter g c =
    let p =
    err_from_is_err_and c.from_residual-in_err-enter-in-Enter.result c.from_residual-in_err-enter-in-Enter.ensures.1 in
    rw (p.1, p.2, c.in-Enter.is) (serves_enter c.requires c.in_err-enter-in-Enter.ensures)

pub returns-in_ok-enter-in-Enter : goal.returns-in_ok-enter-in-Enter
returns-in_ok-enter-in-Enter g c = rw c.in-Enter.is (serves_enter c.requires c.in_ok-enter-in-Enter.ensures)

pub returns-in-Leave : goal.returns-in-Leave
returns-in-Leave g c = rw c.in-Leave.is (serves_leave c.requires c.leave.ensures)

pub returns-in_err-is_new-in-Define : goal.returns-in_err-is_new-in-Define
returns-in_err-is_new-in-Define g c =
    let p =
    err_from_is_err_and c.from_residual-in_err-is_new-in-Define.result c.from_residual-in_err-is_new-in-Define.ensures.1 in
    rw (p.1, p.2, c.in-Define.is) (serves_define c.requires c.in_err-is_new-in-Define.ensures)

pub returns-in_ok-is_new-in-Define : goal.returns-in_ok-is_new-in-Define
returns-in_ok-is_new-in-Define g c = rw c.in-Define.is (serves_define c.requires c.in_ok-is_new-in-Define.ensures)
