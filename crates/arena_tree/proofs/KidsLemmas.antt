-- A tree as its node with its children: what follows from them, and that it is represented where they are.
use Rattle.std.proofs.lemmas.Bool.Decides.{nat_tests}
use Rattle.std.proofs.Common.{◌≡◌, ◌+◌, ap, refl, true, List, [], ◌∷◌, ◌++◌, arith}
use Rattle.std.specs.Prelude.{map}
use Rattle.arena_chunks.specs.Memory.{Memory}
use Rattle.arena_store.specs.declared.block.Block.{Block}
use Rattle.arena_items.specs.Footprint.{Agree}
use Rattle.arena_vec.specs.Vecs.{IsVecIn}
use Rattle.tree_rules.specs.Trees.{Expr, Num, Name, Neg, Sum, Prod, Exprs, NoExprs, And, Let, Show, Stmts, NoStmts, Then, folded, all_folded, all_folds, folded_stmt, folded_stmts, folds_of_stmts}
use Rattle.tree_rules.specs.Trees as tree
use Rattle.tree_nodes.specs.declared.node.Node.{Node}
use Rattle.arena_tree.specs.Counts.{nodes, stmt_nodes}
use Rattle.arena_tree.specs.TreesAt.{node_item, kids_of, kids_in, IsOnly, ExprAt}
use Rattle.arena_tree.specs.Subtrees.{Subtree, OfExpr, OfStmt, SubtreeAt, below_it, expr_row, stmt_row, RowAt, row_nodes, has_kids}
use Rattle.arena_tree.specs.FoldingParts.{folded_it, folds_of_it, row_folds, StandsOn, StandOn, with_kids, kids_folded, ruled, times_ruled}
use Rattle.tree_nodes.proofs.SubtreeLemmas.{row_exprs_at, row_stmts_at, kids_it, own_texts, kids_at, true_false}

expr_row_is : (es : Exprs) → (nodes es ≡ row_nodes (expr_row es)) × (all_folds es ≡ row_folds (expr_row es))
    × (expr_row (all_folded es) ≡ map folded_it (expr_row es))
expr_row_is NoExprs = (refl, refl, refl)
expr_row_is (And e rest) = let r = expr_row_is rest in (omega (arith, r.0), omega (arith, r.1), ap (λ ts. OfExpr (folded e) ∷ ts) r.2)

pub stmt_row_is : (ss : Stmts) → (stmt_nodes ss ≡ row_nodes (stmt_row ss)) × (folds_of_stmts ss ≡ row_folds (stmt_row ss))
    × (stmt_row (folded_stmts ss) ≡ map folded_it (stmt_row ss))
stmt_row_is NoStmts = (refl, refl, refl)
stmt_row_is (Then s rest) = let r = stmt_row_is rest in (omega (arith, r.0), omega (arith, r.1), ap (λ ts. OfStmt (folded_stmt s) ∷ ts) r.2)

pub record IsBranch (t : Subtree) : Type 0 where
  pub below_is : below_it t ≡ row_nodes (kids_it t)
  pub folds_are : folds_of_it t ≡ row_folds (kids_it t) + times_ruled (kids_folded t)
  pub folded_is : folded_it t ≡ ruled (kids_folded t)
  pub kids_are : kids_it (kids_folded t) ≡ map folded_it (kids_it t)

pub branch : (t : Subtree) → IsBranch t
branch (OfExpr (Sum kids)) =
    let r = expr_row_is kids in record { below_is = r.0; folds_are = omega (arith, r.1); folded_is = refl; kids_are = r.2 }
branch (OfExpr (Prod kids)) =
    let r = expr_row_is kids in record { below_is = r.0; folds_are = omega (arith, r.1); folded_is = refl; kids_are = r.2 }
branch (OfStmt (tree.Block body)) =
    let r = stmt_row_is body in record { below_is = r.0; folds_are = omega (arith, r.1); folded_is = refl; kids_are = r.2 }
branch t = record { below_is = omega arith; folds_are = omega arith; folded_is = refl; kids_are = refl }

-- ---- A node with other children

only_row : (e : Expr) (m : Memory) (ns : List Node) → RowAt (OfExpr e ∷ []) m ns → IsOnly ns (λ k. ExprAt e m k)
only_row e m (k ∷ []) at = at.0
only_row e m (k ∷ j ∷ ks) at = at.1
only_row e m ns at = at

module _ (f : Expr → Expr) (fs : Exprs → Exprs) (ss : Stmts → Stmts) (old new : Memory) (n : Node) (state : new.state ≡ old.state)
    (held : IsVecIn node_item new (kids_of n)) where
  back : (t : Subtree) → SubtreeAt t old n → has_kids n.kind ≡ true → Agree old new (own_texts t n)
      → RowAt (kids_it (with_kids f fs ss t)) new (kids_in new n) → SubtreeAt (with_kids f fs ss t) new n
  back t at is same row = grind (arith, nat_tests, only_row, row_exprs_at, row_stmts_at, true_false)

  own_is : (t : Subtree) → own_texts (with_kids f fs ss t) n ≡ own_texts t n
  own_is t = grind (arith, nat_tests)

  pub node_on : {z zt : List Block} (t : Subtree) → SubtreeAt t old n → has_kids n.kind ≡ true → Agree old new (own_texts t n)
      → StandOn (kids_it (with_kids f fs ss t)) new (kids_in new n) z zt
      → StandsOn (with_kids f fs ss t) new n (n.kids ∷ z) (own_texts t n ++ zt)
  node_on t at is same row = grind (arith, nat_tests, back, kids_at, own_is)
