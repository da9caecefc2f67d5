use Rattle.std.proofs.Common.{sym, ◌∙◌, arith, true, false}
use Rattle.std.proofs.lemmas.Result.{err_from_is_err_and}
use Rattle.arena_symbols.proofs.TableLemmas.{entry_size}
use Rattle.arena_symbols.proofs.DefineLemmas.{can_define, define_not, defines}
use Rattle.arena_symbols.proofs.scopes.Scopes.define_pair.Goals as goal

pub returns-then-is_inner : goal.returns-then-is_inner
returns-then-is_inner g c =
    define_not _ _ _ _ c.requires c.ranges.id.fits c.to_le_bytes-content.ensures c.search-hidden.ensures.value true
    (sym c.is_inner.ensures ∙ c.if-is_inner.true) (λ no. absurd (cc))

pub returns-then-len-ge-MOST_PAIRS : goal.returns-then-len-ge-MOST_PAIRS
returns-then-len-ge-MOST_PAIRS g c =
    define_not _ _ _ _ c.requires c.ranges.id.fits c.to_le_bytes-content.ensures c.search-hidden.ensures.value false
    (sym c.is_inner.ensures ∙ c.if-is_inner.false) (λ no. omega (arith, c.len.ensures, c.if-len-ge-MOST_PAIRS.true))

pub put_listed-requires-clause-can : goal.put_listed-requires-clause-can
put_listed-requires-clause-can g c =
    can_define c.args.a.now _ _ c.args.value c.requires entry_size (omega (arith, c.len.ensures, c.if-len-ge-MOST_PAIRS.false))

pub returns-in_err-put_listed : goal.returns-in_err-put_listed
returns-in_err-put_listed g c =
    let p = err_from_is_err_and c.from_residual.result c.from_residual.ensures.1 in
    rw (p.1, p.2) (defines _ _ _ _ c.requires c.ranges.id.fits c.to_le_bytes-content.ensures c.search-hidden.ensures.value
    (sym c.is_inner.ensures ∙ c.if-is_inner.false) entry_size (omega (arith, c.len.ensures, c.if-len-ge-MOST_PAIRS.false)) _ _ _ _
    c.in_err-put_listed.ensures)

pub returns : goal.returns
returns g c =
    defines _ _ _ _ c.requires c.ranges.id.fits c.to_le_bytes-content.ensures c.search-hidden.ensures.value
    (sym c.is_inner.ensures ∙ c.if-is_inner.false) entry_size (omega (arith, c.len.ensures, c.if-len-ge-MOST_PAIRS.false)) _ _ _ _
    c.in_ok-put_listed.ensures
