use Rattle.std.proofs.Common.{◌≡◌, ◌++◌, drop, take, map}
use Rattle.arena_drawing.specs.Shapes.{chunk_shapes, block_shape}
use Rattle.arena_drawing.proofs.shapes.shapes_of.Given as goal

abbrev pub invariant-loop-i : goal.invariant-loop-i
invariant-loop-i l = l.shapes.items ++ chunk_shapes l.i (drop l.i l.chunks) ≡ chunk_shapes 0 l.chunks

abbrev pub invariant-loop-name : goal.invariant-loop-name
invariant-loop-name l = l.shapes.items ≡ l.initial.shapes.items ++ map (block_shape l.chunks) (take l.name-index l.held)
