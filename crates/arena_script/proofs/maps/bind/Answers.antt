use Rattle.std.proofs.Common.{refl}
use Rattle.arena_script.proofs.ThingLemmas.{holds}
use Rattle.arena_script.proofs.CostFacts.{not_given}
use Rattle.arena_script.proofs.MapActs.{bind_full, bind_gives, bind_gives_nothing}
use Rattle.arena_script.proofs.maps.bind.Goals as goal

pub returns-then-has_no_room : goal.returns-then-has_no_room
returns-then-has_no_room g c =
    let full = c.has_no_room.ensures.full c.if-has_no_room.true in
    (bind_full (holds c.requires c.args.name c.in-Ok.ensures) c.args.key c.args.value c.ranges.key.fits full.0 full.1, refl)

pub returns-in_err-old : goal.returns-in_err-old
returns-in_err-old g c = not_given c.from_residual.result c.from_residual.ensures.1
    (bind_gives_nothing _ _ _ _ (holds c.requires c.args.name c.in-Ok.ensures) c.ranges.key.fits
    (c.has_no_room.ensures.room c.if-has_no_room.false) c.known.ensures.state c.in_err-old.ensures)

pub returns : goal.returns
returns g c = rw c.number_or_nothing.ensures
    (bind_gives _ _ _ _ (holds c.requires c.args.name c.in-Ok.ensures) c.ranges.key.fits
    (c.has_no_room.ensures.room c.if-has_no_room.false) c.known.ensures.state c.in_ok-old.ensures)
