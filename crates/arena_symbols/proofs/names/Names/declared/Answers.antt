use Rattle.std.proofs.lemmas.Result.{err_from_is_err_and}
use Rattle.arena_symbols.proofs.NamedLemmas.{within_err}
use Rattle.arena_symbols.proofs.names.Names.declared.Goals as goal

pub returns-in_err-declare-clause-within : goal.returns-in_err-declare-clause-within
returns-in_err-declare-clause-within g c =
    let p = err_from_is_err_and c.from_residual.result c.from_residual.ensures.1 in
    rw (p.1, p.2) (within_err c.in_err-declare.ensures.within)
