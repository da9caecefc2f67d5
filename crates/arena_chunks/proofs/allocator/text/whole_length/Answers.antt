use Rattle.std.proofs.lemmas.Bool.Decides.{nat_tests}
use Rattle.std.proofs.Common.{arith, rules}
use Rattle.std.proofs.lemmas.List.Folds.{length-flat_map-take}
use Rattle.arena_chunks.proofs.allocator.text.whole_length.Goals as goal

pub returns-in_err-size-clause-none : goal.returns-in_err-size-clause-none
returns-in_err-size-clause-none g c = grind (arith, nat_tests, length-flat_map-take, rules)
