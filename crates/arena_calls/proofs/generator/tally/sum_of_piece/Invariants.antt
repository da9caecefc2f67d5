use Rattle.std.proofs.Common.{◌≡◌, ◌*◌, ◌≤◌, sum, take}
use Rattle.arena_calls.proofs.generator.tally.sum_of_piece.Given as goal

abbrev pub invariant-loop-b : goal.invariant-loop-b
invariant-loop-b l = record {
  value : l.total ≡ sum (take l.b-index l.bytes);
  small : l.total ≤ 255 * l.b-index;
}
