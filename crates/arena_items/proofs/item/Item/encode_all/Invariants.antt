use Rattle.std.proofs.Common.{◌≡◌, ◌*◌, take}
use Rattle.std.specs.List.{flat_map}
use Rattle.arena_items.proofs.item.Item.encode_all.Given as goal

abbrev pub invariant-loop-i : goal.invariant-loop-i
invariant-loop-i g l = take (l.i * l.size) l.out ≡ flat_map g.Self.Item.encoded (take l.i l.values)
