use Rattle.std.proofs.Common.{◌≡◌, length, take}
use Rattle.std.specs.List.{flat_map}
use Rattle.arena_text.proofs.text.whole_length.Given as goal

abbrev pub invariant-loop-s : goal.invariant-loop-s
invariant-loop-s g l = l.n ≡ length (flat_map g.T.AsStr.text (take l.s-index l.fn.strings))
