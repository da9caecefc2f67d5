use Rattle.std.proofs.Common.{arith, ap}
use Rattle.std.proofs.lemmas.List.{take_all}
use Rattle.line_parts.specs.Room.{rooms}
use Rattle.line_parts.proofs.RoomLemmas.{rooms_more, rooms_within}
use Rattle.line_parts.proofs.room.room_of.Goals as goal

pub loop-i-preserved : goal.loop-i-preserved
loop-i-preserved g c = omega (
  arith,
  c.loop-i.invariant,
  c.in_ok-room.ensures,
  c.in_ok-room-2.ensures,
  rooms_more g.P.Printer.room c.args.all.now c.loop-i.i c.index-all-i.result c.loop-i-test.true c.index-all-i.is,
)

pub returns-in_err-room : goal.returns-in_err-room
returns-in_err-room g c = rw c.from_residual.ensures (λ less. c.in_err-room.ensures (omega (
  arith,
  less,
  rooms_within g.P.Printer.room c.args.all.now c.loop-i.i c.index-all-i.result c.loop-i-test.true c.index-all-i.is,
)))

pub returns-in_err-room-2 : goal.returns-in_err-room-2
returns-in_err-room-2 g c = rw c.from_residual-in_err-room-2.ensures (λ less. c.in_err-room-2.ensures (omega (
  arith,
  less,
  c.loop-i.invariant.1,
  c.in_ok-room.ensures.1,
  rooms_within g.P.Printer.room c.args.all.now c.loop-i.i c.index-all-i.result c.loop-i-test.true c.index-all-i.is,
)))

pub returns : goal.returns
returns g c = omega (arith, c.loop-i.invariant, ap (rooms g.P.Printer.room) (take_all c.loop-i.i c.args.all.now c.loop-i-test.false))
