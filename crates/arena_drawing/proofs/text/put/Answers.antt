use Rattle.std.proofs.Common.{◌++◌, ◌∙◌, ap, sym, refl, arith}
use Rattle.arena_drawing.proofs.TextLemmas.{filled_number, filled_byte, filled_rest, next_put, all_put}
use Rattle.arena_drawing.proofs.text.put.Goals as goal
use Rattle.arena_drawing.proofs.text.put.Goals.{in-Some+in_ok-extend_from_slice-in-Some, in_default+in_ok-push-in_default}
use Rattle.arena_drawing.proofs.text.put.Goals.{in_default-via-in-Some+else-byte-eq36, in_default-via-in_default}

pub loop-byte-preserved : goal.loop-byte-preserved
loop-byte-preserved c =
    let before = c.loop-byte.invariant in
    elim c.match-split_first.branch [
      | in-Some+in_ok-extend_from_slice-in-Some w ↦ rw w.left-is (next_put c.args.template.now c.loop-byte.out.items _ _ _ _ _
          c.loop-byte.byte-index _ (omega (arith, c.loop-byte-test.true)) (sym w.if-byte-eq36.true)
          (filled_number w.in-Some.n.now w.in-Some.rest.now) (rw w.in-Some.ensures.cases.0 at before)
          (ap (λ o. o.items) w.out-is ∙ w.in_ok-extend_from_slice-in-Some.ensures.items
          ∙ ap (λ xs. c.loop-byte.out.items ++ xs) (w.as_bytes.ensures.value ∙ w.format.ensures.text)))
      | in_default+in_ok-push-in_default w ↦
          let put = ap (λ o. o.items) w.out-is ∙ w.in_ok-push-in_default.ensures.items in
          elim w.in_default.branch [
            | in_default-via-in-Some+else-byte-eq36 v ↦ rw (w.left-is, v.in-Some.ensures.cases.0) (next_put c.args.template.now
                c.loop-byte.out.items _ _ _ _ _ c.loop-byte.byte-index _ (omega (arith, c.loop-byte-test.true)) refl
                (filled_byte v.in-Some.n.now _ v.in-Some.rest.now v.if-byte-eq36.false) (rw v.in-Some.ensures.cases.0 at before) put)
            | in_default-via-in_default v ↦ rw w.left-is (next_put c.args.template.now c.loop-byte.out.items _ _ _ _ _
                c.loop-byte.byte-index _ (omega (arith, c.loop-byte-test.true)) refl (filled_rest _ _ v.in_default.ensures.cases) before put)
          ]
    ]

pub returns : goal.returns
returns c = all_put c.args.template.now c.loop-byte.out.items _ c.loop-byte.left.now c.loop-byte.byte-index c.loop-byte-test.false
    c.loop-byte.invariant
