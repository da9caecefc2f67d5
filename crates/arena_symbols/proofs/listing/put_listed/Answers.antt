use Rattle.std.proofs.Common.{◌∙◌, arith}
use Rattle.std.proofs.lemmas.Result.{err_from_is_err_and}
use Rattle.arena_symbols.proofs.ListingLemmas.{stays, text, look_stays, unlisted, listed, cut_off, fits_both}
use Rattle.arena_symbols.proofs.PayLemmas.{Paid}
use Rattle.arena_symbols.proofs.listing.put_listed.Goals as goal

pub insert_at-requires-clause-held : goal.insert_at-requires-clause-held
insert_at-requires-clause-held g c = (stays c.requires.can c.in_ok-push.ensures.frame).held

pub insert_at-requires-clause-text : goal.insert_at-requires-clause-text
insert_at-requires-clause-text g c = (text c.requires.can c.in_ok-push.ensures.frame).readable

pub insert_at-requires-clause-look : goal.insert_at-requires-clause-look
insert_at-requires-clause-look g c = look_stays c.requires.can c.in_ok-push.ensures.frame c.args.look c.requires.look

pub returns-in_err-push : goal.returns-in_err-push
returns-in_err-push g c =
    let p = err_from_is_err_and c.from_residual.result c.from_residual.ensures.1 in
    let paid : Paid = record { keeps = c.growth_costs.ensures.keeps; asks = c.growth_costs.ensures.asks } in
    let few = fits_both _ _ c.requires.can.some c.requires.can.few in
    rw (p.1, p.2) (unlisted paid g.met.T.Item.layout c.args.a.now c.push.new.a c.push.new.self c.args.value c.requires.can
    c.known.ensures.state _ (c.vector_costs.ensures.fits _ _ _ _ _ _ _ few.0 few.1 c.in_err-push.ensures) c.in_err-push.ensures)

pub returns-in-Ok : goal.returns-in-Ok
returns-in-Ok g c =
    let paid : Paid = record { keeps = c.growth_costs.ensures.keeps; asks = c.growth_costs.ensures.asks } in
    let costs = c.insert_law.ensures.map _ _ _ _ _ _ _ (c.in_ok-push.ensures.frame.min_align ∙ c.known.ensures.state)
    c.requires.can.keys_small (omega arith) (stays c.requires.can c.in_ok-push.ensures.frame).held c.in-Ok.ensures in
    rw c.len-at.ensures (listed paid g.met.T.Item.layout _ _ _ c.args.value c.requires.can c.known.ensures.state c.in_ok-push.ensures
    _ _ _ costs (rw c.len-at.ensures at c.in-Ok.ensures))

pub returns-in-Err : goal.returns-in-Err
returns-in-Err g c =
    let paid : Paid = record { keeps = c.growth_costs.ensures.keeps; asks = c.growth_costs.ensures.asks } in
    let costs = c.insert_law.ensures.map _ _ _ _ _ _ _ (c.in_ok-push.ensures.frame.min_align ∙ c.known.ensures.state)
    c.requires.can.keys_small (omega arith) (stays c.requires.can c.in_ok-push.ensures.frame).held c.in-Err.ensures in
    cut_off paid g.met.T.Item.layout _ _ _ c.args.value c.requires.can c.known.ensures.state c.in_ok-push.ensures _ _ _ _ costs
    (rw c.len-at.ensures at c.in-Err.ensures) (c.vector_costs.ensures.keeps _ _ _ _ _ _ _ c.in_ok-push.ensures)
    ((rw c.len-at.ensures at c.truncate.ensures).becomes c.push.new.a c.in_ok-push.ensures.held)
