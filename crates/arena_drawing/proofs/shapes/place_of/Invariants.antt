use Rattle.std.proofs.Common.{◌≡◌, drop}
use Rattle.arena_drawing.specs.Shapes.{place_from}
use Rattle.arena_drawing.proofs.shapes.place_of.Given as goal

abbrev pub invariant-loop-i : goal.invariant-loop-i
invariant-loop-i l = place_from l.i (drop l.i l.chunks) l.block ≡ place_from 0 l.chunks l.block
