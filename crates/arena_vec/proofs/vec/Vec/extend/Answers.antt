use Rattle.arena_chunks.proofs.Layers.{frame_then}
use Rattle.arena_vec.proofs.ExtendLemmas.{extending_more}
use Rattle.arena_vec.proofs.vec.Vec.extend.Goals as goal

pub loop-value-preserved : goal.loop-value-preserved
loop-value-preserved g c = record {
  held = c.push_hinted.ensures.held;
  frame = frame_then _ _ _ _ _ _ c.loop-value.invariant.frame c.push_hinted.ensures.frame;
  extending = extending_more _ _ _ {x = c.in-Some.value} {hint = c.hint_of-hint.result} c.loop-value.invariant.extending
      c.in-Some.ensures.steps c.hint_of-hint.ensures c.in_ok-push_hinted.ensures;
}
