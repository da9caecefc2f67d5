use Rattle.std.proofs.lemmas.Bool.Decides.{nat_tests}
use Rattle.std.proofs.Common.{arith}
use Rattle.arena_kinds.proofs.Layers.{makes_none}
use Rattle.arena_clone.proofs.options.OptionCloneIn.copy_of.Goals as goal

pub returns-in-None : goal.returns-in-None
returns-in-None g c = grind (arith, nat_tests, makes_none)
