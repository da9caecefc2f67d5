use Rattle.std.proofs.Common.{arith, refl}
use Rattle.std.proofs.lemmas.Result.{err_from_is_err_and}
use Rattle.arena_vec.proofs.SpliceLemmas.{replaced_len, grows_nothing, fills_end, fills_on}
use Rattle.arena_vec.proofs.SpliceEnds.{spliced, extends_all, extends_some}
use Rattle.arena_vec.proofs.vec.Vec.replace_range.Goals as goal

pub returns-in_err-extend-clause-replaces : goal.returns-in_err-extend-clause-replaces
returns-in_err-extend-clause-replaces g c =
    let p = err_from_is_err_and c.from_residual.result c.from_residual.ensures.1 in
    let taken = c.in_err-extend.ensures in
    rw (p.1, p.2) (extends_some c.requires.order c.if-end-self.true taken.held taken.frame taken.err)

pub returns-then-end-self-clause-replaces : goal.returns-then-end-self-clause-replaces
returns-then-end-self-clause-replaces g c =
    let taken = c.in_ok-extend.ensures in
    extends_all c.requires.order c.if-end-self.true taken.held taken.frame taken.ok

pub returns-then-not-fill : goal.returns-then-not-fill
returns-then-not-fill g c =
    let fills = c.if-not-fill.ensures.fills in
    let ended = fills.drains refl in
    spliced c.requires.order (omega arith) (fills_end c.fill.new.iter fills.items (grows_nothing fills.becomes) ended.0 ended.1)

pub put_more-requires-clause-index : goal.put_more-requires-clause-index
put_more-requires-clause-index g c =
    let fills = c.if-not-fill.ensures.fills in
    omega (
      arith,
      (fills.yields refl).0,
      replaced_len g.T.Item c.args.a.now.memory c.args.self.now c.fill.new.vec c.args.start c.args.end
          fills.items (omega arith) fills.becomes.len,
    )

pub returns : goal.returns
returns g c =
    let fills = c.if-not-fill.ensures.fills in
    let all = fills.yields refl in
    spliced c.requires.order (omega arith) (fills_on _ _ (grows_nothing fills.becomes) all.0 all.1 c.put_more.ensures)
