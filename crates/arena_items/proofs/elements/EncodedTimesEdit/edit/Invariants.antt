use Rattle.std.proofs.Common.{◌≡◌, ◌*◌, take, replicate}
use Rattle.std.specs.List.{flat_map}
use Rattle.arena_items.proofs.elements.EncodedTimesEdit.edit.Given as goal

abbrev pub invariant-loop-i : goal.invariant-loop-i
invariant-loop-i g l = take (l.i * l.size) l.place ≡ flat_map g.T.Item.encoded (replicate l.i l.self.value)
