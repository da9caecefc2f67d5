use Rattle.std.proofs.Common.{◌≡◌, ◌++◌}
use Rattle.arena_drawing.proofs.picture.picture_of.Given as goal

abbrev pub invariant-loop-chunk : goal.invariant-loop-chunk
invariant-loop-chunk l = l.chunks.items ++ l.chunk-iterator ≡ l.initial.chunk-iterator
