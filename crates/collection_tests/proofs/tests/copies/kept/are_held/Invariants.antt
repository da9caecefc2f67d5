use Rattle.std.proofs.Common.{take}
use Rattle.std.specs.List.{AllByRecursion}
use Rattle.arena_hash.specs.Slots.{items}
use Rattle.arena_hash.specs.Tables.{slots_in}
use Rattle.arena_clone.specs.MapKind.{pair_of}
use Rattle.collection_tests.proofs.tests.copies.kept.are_held.Given as goal

abbrev pub invariant-loop-slot : goal.invariant-loop-slot
invariant-loop-slot g l = AllByRecursion ((pair_of g.K.CloneIn.kind g.V.CloneIn.kind).is_held l.a.memory)
    (items (take l.slot (slots_in g.K.Item g.V.Item l.a.memory l.map.table)))
