use Rattle.std.proofs.Common.{◌≡◌, length, take}
use Rattle.std.specs.List.{flat_map}
use Rattle.arena_chunks.proofs.allocator.text.whole_length.Given as goal

abbrev pub invariant-loop-s : goal.invariant-loop-s
invariant-loop-s g l = l.size ≡ length (flat_map g.T.AsStr.text (take l.s-index l.fn.strings))
