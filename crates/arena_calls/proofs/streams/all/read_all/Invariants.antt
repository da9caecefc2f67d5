use Rattle.std.proofs.Common.{◌≡◌, ◌≤◌, ◌-◌, length}
use Rattle.arena_calls.specs.Streams.{Takes}
use Rattle.arena_calls.specs.ReadAll.{limit}
use Rattle.arena_calls.proofs.streams.all.read_all.Given as goal

abbrev pub invariant-reads : goal.invariant-reads
invariant-reads g l = record {
  taken : Takes (g.I.Input.left l.fn.input) (g.I.Input.left l.input) l.bytes.items;
  small : length l.bytes.items ≤ limit;
  no_fault : g.I.Input.faults l.input ≡ g.I.Input.faults l.fn.input;
}

abbrev pub decreases-reads : goal.decreases-reads
decreases-reads g l = limit - length l.bytes.items
