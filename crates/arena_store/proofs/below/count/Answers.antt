use Rattle.std.proofs.Common.{arith}
use Rattle.arena_store.proofs.BelowLemmas.{split_first, split_next}
use Rattle.arena_store.proofs.below.count.Goals as goal

pub loop-i-init : goal.loop-i-init
loop-i-init g c = split_first _ _ c.requires.first

pub loop-i-preserved : goal.loop-i-preserved
loop-i-preserved g c = split_next _ _ _ _ _ c.base_at.ensures.rises
    (omega (arith, c.loop-i-test.true, c.len-i-end.ensures)) c.base_at.ensures.value c.loop-i.invariant
