use Rattle.std.proofs.Common.{◌≡◌, ◌++◌, take}
use Rattle.std.specs.List.{flat_map}
use Rattle.arena_drawing.specs.Text.{shape_text}
use Rattle.arena_drawing.proofs.text.svg_of.Given as goal

abbrev pub invariant-loop-shape : goal.invariant-loop-shape
invariant-loop-shape l = l.out.items ≡ l.initial.out.items ++ flat_map (shape_text l.em) (take l.shape-index l.shapes)
