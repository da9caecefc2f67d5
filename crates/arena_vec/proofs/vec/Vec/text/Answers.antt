use Rattle.std.proofs.Common.{◌≡◌, [], cond, ltb, arith}
use Rattle.std.proofs.lemmas.Bool.Decides.{nat_tests}
use Rattle.std.specs.Fmt.{comma_space}
use Rattle.arena_items.proofs.Layers.{length-elements}
use Rattle.arena_vec.proofs.DebugLemmas.{text_more, text_all}
use Rattle.arena_vec.proofs.vec.Vec.text.Goals as goal
use Rattle.arena_vec.proofs.vec.Vec.text.Goals.{then-i-gt0, else-i-gt0}

pub loop-i-preserved : goal.loop-i-preserved
loop-i-preserved g c =
    let lead : c.if-i-gt0.lead.now ≡ cond (ltb 0 c.loop-i.i) comma_space [] =
    elim c.if-i-gt0.branch [ then-i-gt0 w ↦ grind (arith, nat_tests) | else-i-gt0 w ↦ grind (arith, nat_tests) ] in
    text_more g.T.Debug.debug_output _ c.loop-i.i _ _ c.loop-i.invariant _ _ c.get-value.ensures lead c.in_ok-write.ensures.bytes

pub returns : goal.returns
returns g c = text_all g.T.Debug.debug_output _ c.loop-i.i _ _ c.loop-i.invariant _ (length-elements _ _ _ _) (omega arith)
    c.in_ok-push_str.ensures.bytes
