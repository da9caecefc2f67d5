use Rattle.std.proofs.Common.{arith, refl}
use Rattle.arena_vec.proofs.SpliceLemmas.{replaced_len, widen_filled, fills_end, fills_on}
use Rattle.arena_vec.proofs.splice.put_hinted.Goals as goal

pub fill-requires-clause-within : goal.fill-requires-clause-within
fill-requires-clause-within g c =
    let wide = c.in_ok-widen.ensures in
    omega (
      arith,
      wide.many,
      replaced_len g.T.Item c.args.a.now.memory c.args.vec.now c.widen.new.vec c.args.at c.args.at wide.values
          c.requires.index wide.grows.len,
      c.requires.index,
    )

pub returns-then-not-fill : goal.returns-then-not-fill
returns-then-not-fill g c =
    let fills = c.if-not-fill.ensures.fills in
    let ended = fills.drains refl in
    fills_end c.fill.new.iter fills.items (widen_filled c.requires.index c.in_ok-widen.ensures fills) (omega (arith, ended.0)) ended.1

pub put_rest-requires-clause-index : goal.put_rest-requires-clause-index
put_rest-requires-clause-index g c =
    let fills = c.if-not-fill.ensures.fills in
    let grows = widen_filled c.requires.index c.in_ok-widen.ensures fills in
    omega (
      arith,
      (fills.yields refl).0,
      replaced_len g.T.Item c.args.a.now.memory c.args.vec.now c.fill.new.vec c.args.at c.args.at
          fills.items c.requires.index grows.len,
    )

pub returns : goal.returns
returns g c =
    let fills = c.if-not-fill.ensures.fills in
    let all = fills.yields refl in
    fills_on _ _ (widen_filled c.requires.index c.in_ok-widen.ensures fills) (omega (arith, all.0)) all.1 c.put_rest.ensures
