use Rattle.std.proofs.Common.{◌^◌, ◌-◌, ◌<◌, arith}
use Rattle.std.proofs.lemmas.Result.{err_from_is_err_and}
use Rattle.arena_symbols.proofs.PayLemmas.{Paid}
use Rattle.arena_symbols.proofs.TableCallLemmas.{enter_full, enters}
use Rattle.arena_symbols.proofs.scopes.Scopes.enter.Goals as goal

pub returns-then-len : goal.returns-then-len
returns-then-len g c = enter_full c.args.a.now c.args.self.now c.requires (omega (arith, c.len.ensures, c.if-len.true))

pub returns-in_err-push : goal.returns-in_err-push
returns-in_err-push g c =
    let few : c.args.self.now.starts.raw.len < 2 ^ 29 - 1 = omega (arith, c.len.ensures, c.if-len.false) in
    let paid : Paid = record { keeps = c.growth_costs.ensures.keeps; asks = c.growth_costs.ensures.asks } in
    let grows = rw c.len-n.ensures at c.in_err-push.ensures in
    let p = err_from_is_err_and c.from_residual.result c.from_residual.ensures.1 in
    rw (p.1, p.2) (enters paid c.args.a.now _ _ c.requires few c.known.ensures.state c.len-n.ensures _
    (c.vector_costs.ensures.fits _ _ _ _ _ _ _ (omega (arith, few)) (omega (arith, few)) grows) grows)

pub returns : goal.returns
returns g c =
    let few : c.args.self.now.starts.raw.len < 2 ^ 29 - 1 = omega (arith, c.len.ensures, c.if-len.false) in
    let paid : Paid = record { keeps = c.growth_costs.ensures.keeps; asks = c.growth_costs.ensures.asks } in
    let grows = rw c.len-n.ensures at c.in_ok-push.ensures in
    enters paid c.args.a.now _ _ c.requires few c.known.ensures.state c.len-n.ensures _
    (c.vector_costs.ensures.fits _ _ _ _ _ _ _ (omega (arith, few)) (omega (arith, few)) grows) grows
