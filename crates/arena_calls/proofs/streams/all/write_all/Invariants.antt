use Rattle.std.proofs.Common.{◌≡◌, ◌≤◌, ◌-◌, length, take}
use Rattle.arena_calls.specs.Streams.{Writes}
use Rattle.arena_calls.proofs.streams.all.write_all.Given as goal

abbrev pub invariant-pieces : goal.invariant-pieces
invariant-pieces g l = record {
  written : Writes (g.O.Output.written l.fn.output) (g.O.Output.written l.output) (take l.at l.bytes);
  within : l.at ≤ length l.bytes;
  no_fault : g.O.Output.faults l.output ≡ g.O.Output.faults l.fn.output;
}

abbrev pub decreases-pieces : goal.decreases-pieces
decreases-pieces g l = length l.bytes - l.at
