use Rattle.std.proofs.Common.{◌≡◌, ◌+◌, ◌%◌, ◌^◌}
use Rattle.std.specs.List.{sum}
use Rattle.example_collections.proofs.pushing.sum_of.Given as goal

abbrev pub invariant-loop-x : goal.invariant-loop-x
invariant-loop-x g l = (l.sum + sum l.x-iterator) % 2 ^ 64 ≡ sum l.initial.x-iterator % 2 ^ 64
