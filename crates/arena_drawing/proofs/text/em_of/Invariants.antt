use Rattle.std.proofs.Common.{◌≡◌, drop}
use Rattle.std.specs.Prelude.{max}
use Rattle.arena_drawing.specs.Text.{largest}
use Rattle.arena_drawing.proofs.text.em_of.Given as goal

abbrev pub invariant-loop-chunk : goal.invariant-loop-chunk
invariant-loop-chunk l = max l.largest (largest (drop l.chunk-index l.chunks)) ≡ largest l.chunks
