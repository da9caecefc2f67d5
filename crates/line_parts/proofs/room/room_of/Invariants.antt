use Rattle.std.proofs.Common.{◌≡◌, ◌<◌, ◌^◌, take}
use Rattle.line_parts.specs.Room.{rooms}
use Rattle.line_parts.proofs.room.room_of.Given as goal

abbrev pub invariant-loop-i : goal.invariant-loop-i
invariant-loop-i g l = (l.room < 2 ^ 64) × (l.room ≡ rooms g.P.Printer.room (take l.i l.all))
