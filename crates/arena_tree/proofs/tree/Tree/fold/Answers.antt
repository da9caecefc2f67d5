use Rattle.std.proofs.lemmas.Bool.Decides.{nat_tests}
use Rattle.std.proofs.Common.{arith}
use Rattle.arena_tree.proofs.FoldTreeLemmas.{can_fold, tree_folds, tree_stands}
use Rattle.arena_tree.proofs.tree.Tree.fold.Goals as goal

pub fold_row-requires : goal.fold_row-requires
fold_row-requires g c = grind (arith, nat_tests, can_fold)

pub returns-clause-folded : goal.returns-clause-folded
returns-clause-folded g c = λ trees means. tree_folds trees c.requires means c.fold_row.ensures.folded c.fold_row.ensures.places

pub returns-clause-tree : goal.returns-clause-tree
returns-clause-tree g c = tree_stands c.folding.ensures.keeps c.requires c.fold_row.ensures.folded

pub returns-clause-lean : goal.returns-clause-lean
returns-clause-lean g c = c.fold_row.ensures.lean
