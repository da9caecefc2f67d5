use Rattle.std.proofs.Common.{take_all}
use Rattle.arena_drawing.proofs.TextLemmas.{svg_put}
use Rattle.arena_drawing.proofs.text.svg_of.Goals as goal

pub returns : goal.returns
returns c = svg_put c.args.chunks.now c.args.shapes.now _ c.em_of-em.result c.new-out.result.items
    c.put.new.out.items c.loop-shape.out.items _
    c.em_of-em.ensures (take_all c.loop-shape.shape-index c.args.shapes.now c.loop-shape-test.false) c.new-out.ensures.items
    c.in_ok-put.ensures c.loop-shape.invariant c.in_ok-put-2.ensures
