use Rattle.std.proofs.lemmas.Bool.Decides.{nat_tests}
use Rattle.std.proofs.Common.{arith}
use Rattle.std.proofs.lemmas.Result.{err_from_is_err_and}
use Rattle.arena_clone.proofs.PutLemmas.{puts_none, puts_free, puts_refused, put_map, put_readable, put_apart, puts_no_refusal, puts_more}
use Rattle.arena_clone.proofs.PutOriginLemmas.{handle_kept, slot_before, pair_held, pair_was}
use Rattle.arena_clone.proofs.maps.put_pairs.Goals as goal

pub loop-slot-init : goal.loop-slot-init
loop-slot-init g c = puts_none c.requires.empty

pub pair_at-requires-clause-handle : goal.pair_at-requires-clause-handle
pair_at-requires-clause-handle g c = grind (arith, nat_tests, handle_kept)

pub loop-slot-preserved-in_default : goal.loop-slot-preserved-in_default
loop-slot-preserved-in_default g c =
    let found = rw c.arena.ensures at c.in_default.ensures in
    puts_free c.loop-slot.invariant
    (slot_before (g.met.O.Origin.is_origin c.args.from.now) c.args.map.now c.loop-slot.invariant c.requires.held c.requires.beside _ found)

pub clone_pair-requires-clause-held : goal.clone_pair-requires-clause-held
clone_pair-requires-clause-held g c =
    pair_held (g.met.O.Origin.is_origin c.args.from.now) c.args.map.now c.loop-slot.invariant c.requires.held c.requires.beside
    g.met.K.CloneIn.lawful g.met.V.CloneIn.lawful (rw c.arena.ensures at c.in-Some.ensures)

pub returns-in_err-key : goal.returns-in_err-key
returns-in_err-key g c =
    let p = err_from_is_err_and c.from_residual.result c.from_residual.ensures.1 in
    let was = pair_was (g.met.O.Origin.is_origin c.args.from.now) c.args.map.now c.loop-slot.invariant c.requires.held c.requires.beside
    g.met.K.CloneIn.lawful g.met.V.CloneIn.lawful (rw c.arena.ensures at c.in-Some.ensures) in
    rw (p.1, p.2) (puts_refused c.loop-slot.invariant g.met.K.CloneIn.lawful g.met.V.CloneIn.lawful was.0 (was.1 _ _ c.in_err-key.ensures))

pub insert-requires-clause-held : goal.insert-requires-clause-held
insert-requires-clause-held g c =
    let was = pair_was (g.met.O.Origin.is_origin c.args.from.now) c.args.map.now c.loop-slot.invariant c.requires.held c.requires.beside
    g.met.K.CloneIn.lawful g.met.V.CloneIn.lawful (rw c.arena.ensures at c.in-Some.ensures) in
    put_map c.loop-slot.invariant g.met.K.CloneIn.lawful g.met.V.CloneIn.lawful was.0 g.met.K.CloneKey.keeps
    c.requires.held.0.once (omega (arith, c.requires.room, c.requires.held.0.count)) (was.1 _ _ c.in_ok-key.ensures)

pub insert-requires-clause-text : goal.insert-requires-clause-text
insert-requires-clause-text g c =
    let was = pair_was (g.met.O.Origin.is_origin c.args.from.now) c.args.map.now c.loop-slot.invariant c.requires.held c.requires.beside
    g.met.K.CloneIn.lawful g.met.V.CloneIn.lawful (rw c.arena.ensures at c.in-Some.ensures) in
    put_readable c.loop-slot.invariant g.met.K.CloneIn.lawful g.met.V.CloneIn.lawful was.0 g.met.K.CloneKey.keeps
    c.requires.held.0.once (omega (arith, c.requires.room, c.requires.held.0.count)) (was.1 _ _ c.in_ok-key.ensures)

pub insert-requires-clause-apart : goal.insert-requires-clause-apart
insert-requires-clause-apart g c =
    let was = pair_was (g.met.O.Origin.is_origin c.args.from.now) c.args.map.now c.loop-slot.invariant c.requires.held c.requires.beside
    g.met.K.CloneIn.lawful g.met.V.CloneIn.lawful (rw c.arena.ensures at c.in-Some.ensures) in
    put_apart c.loop-slot.invariant g.met.K.CloneIn.lawful g.met.V.CloneIn.lawful was.0 g.met.K.CloneKey.keeps
    c.requires.held.0.once (omega (arith, c.requires.room, c.requires.held.0.count)) (was.1 _ _ c.in_ok-key.ensures)

pub returns-in_err-insert : goal.returns-in_err-insert
returns-in_err-insert g c =
    let was = pair_was (g.met.O.Origin.is_origin c.args.from.now) c.args.map.now c.loop-slot.invariant c.requires.held c.requires.beside
    g.met.K.CloneIn.lawful g.met.V.CloneIn.lawful (rw c.arena.ensures at c.in-Some.ensures) in
    absurd (puts_no_refusal c.loop-slot.invariant g.met.K.CloneIn.lawful g.met.V.CloneIn.lawful was.0 g.met.K.CloneKey.keeps
    c.requires.held.0.once (omega (arith, c.requires.room, c.requires.held.0.count))
    (was.1 _ _ c.in_ok-key.ensures) c.in_err-insert.ensures)

pub loop-slot-preserved : goal.loop-slot-preserved
loop-slot-preserved g c =
    let was = pair_was (g.met.O.Origin.is_origin c.args.from.now) c.args.map.now c.loop-slot.invariant c.requires.held c.requires.beside
    g.met.K.CloneIn.lawful g.met.V.CloneIn.lawful (rw c.arena.ensures at c.in-Some.ensures) in
    puts_more c.loop-slot.invariant g.met.K.CloneIn.lawful g.met.V.CloneIn.lawful was.0 g.met.K.CloneKey.keeps
    c.requires.held.0.once (omega (arith, c.requires.room, c.requires.held.0.count)) (was.1 _ _ c.in_ok-key.ensures) c.in_ok-insert.ensures
