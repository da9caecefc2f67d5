use Rattle.std.proofs.Common.{◌≡◌, ◌≤◌, ◌+◌, ◌++◌, take}
use Rattle.std.specs.Prelude.{vec_len, vec_capacity}
use Rattle.std.specs.List.{flat_map}
use Rattle.line_parts.specs.Room.{rooms}
use Rattle.line_parts.proofs.room.put_all.Given as goal

abbrev pub invariant-loop-i : goal.invariant-loop-i
invariant-loop-i g l = record {
  items : l.out.items ≡ l.fn.out.items ++ flat_map g.P.Printer.text (take l.i l.all);
  len : vec_len l.out ≤ vec_len l.fn.out + rooms g.P.Printer.room (take l.i l.all);
  capacity : vec_capacity l.fn.out ≤ vec_capacity l.out;
}
