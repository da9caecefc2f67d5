use Rattle.std.proofs.lemmas.Bool.Decides.{nat_tests}
use Rattle.std.proofs.Common.{◌<◌, ◌≤◌, refl, arith, [], ◌∷◌}
use Rattle.std.specs.Prelude.{slice_index}
use Rattle.arena_chunks.proofs.Layers.{frame_reflexive, frame_then}
use Rattle.arena_items.proofs.Layers.{same_then, wrote_same}
use Rattle.arena_items.specs.Values.{bytes_of}
use Rattle.hash_ring.proofs.Close.{closing-start, closing-less}
use Rattle.arena_table.proofs.FarGapLemmas.{far-held, far-closing, far-freed, far-closed}
use Rattle.arena_table.proofs.HandleLemmas.{handle-shape, held-homes, held-taken, held-within, given-whole}
use Rattle.arena_table.proofs.changes.close_far.Goals as goal

pub slots-init : goal.slots-init
slots-init g c =
    let some : 0 < c.args.table.slots = omega (arith, c.requires.free) in
    let begun = held-within c.requires.held c.args.at c.requires.taken.0 c.requires.taken.1 in
    record {
      some = some;
      begun = begun;
      held = c.requires.held;
      closing = closing-start _ _ (held-homes c.requires.held some) _ c.args.at c.requires.taken.0 begun c.requires.taken.1
          c.requires.held.table.ordered;
      within = begun;
      places = record { state = refl; statistics = refl; source = refl };
      frame = frame_reflexive c.args.a.now.memory (c.args.table.block ∷ []);
    }

pub bounds-read-from : goal.bounds-read-from
bounds-read-from g c = grind (arith, nat_tests, handle-shape)

pub returns-then-mark-lt-AWAY-clause-held : goal.returns-then-mark-lt-AWAY-clause-held
returns-then-mark-lt-AWAY-clause-held g c =
    let at = c.slots.invariant in
    far-freed _ _ _ _ _ c.requires.keys_small c.requires.values_small at.some at.held _ _ _ _ _ at.begun c.requires.free at.within
    c.ring-from.ensures at.closing (rw c.read.ensures at c.if-mark-lt-AWAY.true) c.write_with.ensures.edits

pub returns-then-mark-lt-AWAY-clause-closed : goal.returns-then-mark-lt-AWAY-clause-closed
returns-then-mark-lt-AWAY-clause-closed g c =
    let at = c.slots.invariant in
    far-closed _ _ _ _ _ c.requires.keys_small c.requires.values_small at.some at.held _ _ _ _ _ at.begun c.requires.free at.within
    c.ring-from.ensures at.closing (rw c.read.ensures at c.if-mark-lt-AWAY.true) c.write_with.ensures.edits

pub write_with-requires-in-slots-clause-suits : goal.write_with-requires-in-slots-clause-suits
write_with-requires-in-slots-clause-suits g c = grind (arith, nat_tests, given-whole, handle-shape)

pub slots-preserved : goal.slots-preserved
slots-preserved g c =
    let at = c.slots.invariant in
    let within : c.ring-from.result < c.args.table.slots = omega (arith, c.ring-from.ensures) in
    let high : 32 ≤ slice_index (bytes_of c.slots.a.memory c.args.table.block) c.ring-from.result =
    rw c.read.ensures at c.if-mark-lt-AWAY.false in
    let x = held-taken at.held c.requires.keys_small c.requires.values_small c.ring-from.result within (omega (arith, high)) in
    let back = c.mark_back.ensures x.0 x.1 in
    let edits = c.write_with-in-slots.ensures.edits in
    record {
      some = at.some;
      begun = at.begun;
      held = far-held _ _ _ _ _ c.requires.keys_small c.requires.values_small at.some at.held _ _ _ _ _ at.begun c.requires.free at.within
          c.ring-from.ensures at.closing _ back.0 _ back.1 back.2 edits;
      closing = far-closing _ _ _ _ _ c.requires.keys_small c.requires.values_small at.some at.held _ _ _ _ _ at.begun c.requires.free
          at.within c.ring-from.ensures at.closing _ back.0 _ back.1 back.2 edits;
      within = within;
      places = same_then _ _ _ at.places (wrote_same _ _ _ _ _ edits.writes c.write_with-in-slots.ensures.source);
      frame = frame_then _ _ _ _ _ _ at.frame edits.writes.frame;
    }

pub returns-clause-closed : goal.returns-clause-closed
returns-clause-closed g c =
    let at = c.slots.invariant in
    absurd (omega (arith, closing-less _ _ (held-homes at.held at.some) _ _ _ _ _ at.begun at.closing c.requires.free))
