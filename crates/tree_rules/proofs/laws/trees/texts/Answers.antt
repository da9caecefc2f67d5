use Rattle.tree_rules.proofs.RoundTrip.{text_program}
use Rattle.tree_rules.proofs.FitLemmas.{text_tree}
use Rattle.tree_rules.proofs.laws.trees.texts.Goals as goal

pub returns-clause-program : goal.returns-clause-program
returns-clause-program c = text_program

pub returns-clause-tree : goal.returns-clause-tree
returns-clause-tree c = text_tree
