use Rattle.std.proofs.lemmas.Bool.Decides.{nat_tests}
use Rattle.std.proofs.Common.{arith, []}
use Rattle.arena.proofs.BlockLayers.{frame_reflexive}
use Rattle.arena.proofs.AstLayers.{error_kept}
use Rattle.example_language.proofs.copying.keep.Goals as goal

pub returns-in_err-tree-clause-wrong : goal.returns-in_err-tree-clause-wrong
returns-in_err-tree-clause-wrong g c = grind (arith, nat_tests, error_kept)

pub returns-in_err-tree-clause-others : goal.returns-in_err-tree-clause-others
returns-in_err-tree-clause-others g c = frame_reflexive _ []

pub returns-in_err-kept-clause-wrong : goal.returns-in_err-kept-clause-wrong
returns-in_err-kept-clause-wrong g c = grind (arith, nat_tests, error_kept)

pub returns-clause-list : goal.returns-clause-list
returns-clause-list g c = grind (arith, nat_tests)
