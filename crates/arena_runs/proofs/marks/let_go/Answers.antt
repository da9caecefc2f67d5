use Rattle.std.proofs.Common.{◌-◌, sym, ◌∙◌, arith}
use Rattle.std.proofs.lemmas.List.{get_or_read}
use Rattle.arena_runs.proofs.Log.{letting_first, letting_next}
use Rattle.arena_runs.proofs.marks.let_go.Goals as goal

pub loop-count-init : goal.loop-count-init
loop-count-init g c = letting_first _ _ _ _ (omega (arith, c.len-count.ensures))

pub loop-count-preserved : goal.loop-count-preserved
loop-count-preserved g c =
    let read = get_or_read c.args.log.now.items (c.loop-count.count - 1) c.index-name.result.now
    (omega (arith, c.loop-count.invariant.within, c.loop-count-test.true)) c.index-name.ensures 0 in
    letting_next _ _ _ _ c.loop-count.count c.index-name.result.now _ (omega (arith, c.loop-count-test.true)) read
    (sym c.keep-stays.ensures.answer ∙ c.if-stays.false)
    c.keep-stays.ensures.left c.keep-stays.ensures.ended c.loop-count.invariant
