use Rattle.tree_rules.proofs.WellFormedLemmas.{good_fine}
use Rattle.tree_rules.proofs.laws.trees.well_formed.Goals as goal

pub returns : goal.returns
returns c = good_fine
