use Rattle.std.proofs.Common.{◌≡◌, take}
use Rattle.arena_calls.specs.Streams.{Writes}
use Rattle.arena_program.specs.Rendering.{joined}
use Rattle.arena_program.proofs.printout.print_all.Given as goal

abbrev pub invariant-loop-text : goal.invariant-loop-text
invariant-loop-text g l = record {
  written : Writes (g.O.Output.written l.fn.output) (g.O.Output.written l.output) (joined (take l.text-index l.texts));
  no_fault : g.O.Output.faults l.output ≡ g.O.Output.faults l.fn.output;
}
