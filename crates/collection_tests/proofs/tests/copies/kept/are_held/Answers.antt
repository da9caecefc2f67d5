use Rattle.std.proofs.Common.{arith, Some, None}
use Rattle.arena_hash.specs.Tables.{slots_in}
use Rattle.arena_clone.specs.MapKind.{pair_of}
use Rattle.collection_tests.proofs.HeldLemmas.{held_next, held_slots}
use Rattle.collection_tests.proofs.tests.copies.kept.are_held.Goals as goal

pub loop-slot-preserved-in_default : goal.loop-slot-preserved-in_default
loop-slot-preserved-in_default g c =
    held_next ((pair_of g.K.CloneIn.kind g.V.CloneIn.kind).is_held c.args.a.now.memory)
    (slots_in g.K.Item g.V.Item c.args.a.now.memory c.args.map.now.table) c.loop-slot.slot None c.in_default.ensures tt
    c.loop-slot.invariant

pub loop-slot-preserved : goal.loop-slot-preserved
loop-slot-preserved g c =
    held_next ((pair_of g.K.CloneIn.kind g.V.CloneIn.kind).is_held c.args.a.now.memory)
    (slots_in g.K.Item g.V.Item c.args.a.now.memory c.args.map.now.table) c.loop-slot.slot (Some c.in-Some.pair)
    c.in-Some.ensures (c.is_held.ensures c.if-not-is_held.false, c.is_held-else-not-is_held.ensures c.if-not-is_held-2.false)
    c.loop-slot.invariant

pub returns : goal.returns
returns g c = λ _. (
  c.requires.held,
  held_slots ((pair_of g.K.CloneIn.kind g.V.CloneIn.kind).is_held c.args.a.now.memory)
      (slots_in g.K.Item g.V.Item c.args.a.now.memory c.args.map.now.table) c.loop-slot.slot
      (omega (arith, c.requires.held.table.ordered.long, c.loop-slot-test.false)) c.loop-slot.invariant,
)
