use Rattle.std.proofs.lemmas.Bool.Decides.{nat_tests}
use Rattle.std.proofs.Common.{arith}
use Rattle.arena_chunks.proofs.Layers.{length-bytes, take_bytes}
use Rattle.arena_clone.proofs.origin.AllocatorOrigin.copy_front.Goals as goal

pub slice_bounds-write-end : goal.slice_bounds-write-end
slice_bounds-write-end g c = grind (arith, nat_tests, take_bytes, length-bytes)

pub returns-clause-writes : goal.returns-clause-writes
returns-clause-writes g c = grind (arith, nat_tests, take_bytes)
