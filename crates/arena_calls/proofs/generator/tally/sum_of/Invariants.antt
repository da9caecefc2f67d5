use Rattle.std.proofs.Common.{◌≡◌, ◌*◌, ◌+◌, ◌≤◌, sum, length}
use Rattle.arena_calls.proofs.generator.tally.sum_of.Given as goal

abbrev pub invariant-pieces : goal.invariant-pieces
invariant-pieces l = record {
  value : l.total + sum l.rest ≡ sum l.bytes;
  small : l.total + 255 * length l.rest ≤ 255 * length l.bytes;
}

abbrev pub decreases-pieces : goal.decreases-pieces
decreases-pieces l = length l.rest
