use Rattle.std.proofs.Common.{◌≡◌, ◌++◌, ◌∙◌, ap, arith, false}
use Rattle.std.specs.Prelude.{◌==◌}
use Rattle.std.proofs.lemmas.Bool.Decides.{nat_tests}
use Rattle.std.proofs.lemmas.Result.{on_ok_weaker}
use Rattle.arena_drawing.specs.Text.{label_text}
use Rattle.arena_drawing.proofs.TextLemmas.{labelled, unlabelled, three_put}
use Rattle.arena_drawing.proofs.text.put_shape.Goals as goal
use Rattle.arena_drawing.proofs.text.put_shape.Goals.{then-block-em+in_ok-put-in-Block-2, else-block-em}

pub returns-after-block-em : goal.returns-after-block-em
returns-after-block-em c =
    let label : c.if-block-em.out.items ≡ c.put-in-Block.new.out.items ++ label_text c.args.em c.in-Block.name c.in-Block.block
    = elim c.if-block-em.branch [
      | then-block-em+in_ok-put-in-Block-2 w ↦ labelled c.args.em c.in-Block.name c.in-Block.block _ _ w.if-block-em.true
          (ap (λ o. o.items) w.out-is ∙ w.in_ok-put-in-Block-2.ensures)
      | else-block-em w ↦ unlabelled c.args.em c.in-Block.name c.in-Block.block _ _ w.if-block-em.false (ap (λ o. o.items) w.out-is)
    ] in
    let some : (c.in-Block.block.size == 0) ≡ false = grind (arith, nat_tests, c.if-block-eq0.false) in
    rw c.in-Block.is (on_ok_weaker c.put-in-Block-2.result (λ last. rw some (three_put c.args.out.now.items _ _ _ _ _ _
    c.in_ok-put-in-Block.ensures label last)) c.put-in-Block-2.ensures)
