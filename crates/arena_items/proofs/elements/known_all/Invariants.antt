use Rattle.std.proofs.Common.{take}
use Rattle.std.specs.List.{All}
use Rattle.arena_items.proofs.elements.known_all.Given as goal

abbrev pub invariant-loop-value : goal.invariant-loop-value
invariant-loop-value g l = All g.T.Item.is_value (take l.value-index l.values)
