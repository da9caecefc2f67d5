-- Expressions and statements as subtrees: their children, what the rule for one node leaves to those, and how many
-- there are.
use Rattle.std.proofs.lemmas.Bool.Decides.{nat_tests}
use Rattle.std.proofs.Common.{arith, ◌≡◌, ℕ, suc, ap, sym, refl, ◌∙◌, true, false, List, [], ◌∷◌, ◌++◌, length, append-nil}
use Rattle.arena_chunks.specs.Memory.{Memory}
use Rattle.arena_store.specs.declared.block.Block.{Block}
use Rattle.arena_vec.specs.Vecs.{IsVecIn}
use Rattle.tree_rules.specs.Trees.{Expr, Num, Name, Neg, Sum, Prod, Exprs, NoExprs, And, Stmt, Let, Show, Stmts, NoStmts, Then}
use Rattle.tree_rules.specs.Trees as tree
pub use Rattle.tree_nodes.specs.Subtrees.{kids_it}
use Rattle.tree_nodes.specs.declared.node.Node.{Node}
use Rattle.tree_nodes.specs.TreesAt.{node_item, kids_of, kids_in, IsOnly, of_first, ExprAt, ExprsAt}
use Rattle.tree_nodes.specs.StmtsAt.{StmtsAt}
use Rattle.tree_nodes.specs.Lists.{expr_lists, exprs_lists, expr_texts, exprs_texts, stmt_lists, stmts_lists, stmt_texts, stmts_texts}
use Rattle.tree_nodes.specs.Subtrees.{Subtree, OfExpr, OfStmt, SubtreeAt, lists_at, texts_at, expr_row, stmt_row, RowAt, row_lists, row_texts, has_kids}

-- ---- Lists as rows

pub expr_row_at : (es : Exprs) (m : Memory) (ns : List Node) → ExprsAt es m ns → RowAt (expr_row es) m ns
expr_row_at (And e rest) m (n ∷ ns) at = (at.0, expr_row_at rest m ns at.1)
expr_row_at es m ns at = at

pub row_exprs_at : (es : Exprs) (m : Memory) (ns : List Node) → RowAt (expr_row es) m ns → ExprsAt es m ns
row_exprs_at (And e rest) m (n ∷ ns) at = (at.0, row_exprs_at rest m ns at.1)
row_exprs_at es m ns at = at

pub expr_row_blocks : (es : Exprs) (m : Memory) (ns : List Node)
    → (exprs_lists es m ns ≡ row_lists (expr_row es) m ns) × (exprs_texts es m ns ≡ row_texts (expr_row es) m ns)
expr_row_blocks (And e rest) m (n ∷ ns) =
    let r = expr_row_blocks rest m ns in
    (ap (λ bs. expr_lists e m n ++ bs) r.0, ap (λ bs. expr_texts e m n ++ bs) r.1)
expr_row_blocks es m ns = (refl, refl)

pub stmt_row_at : (ss : Stmts) (m : Memory) (ns : List Node) → StmtsAt ss m ns → RowAt (stmt_row ss) m ns
stmt_row_at (Then s rest) m (n ∷ ns) at = (at.0, stmt_row_at rest m ns at.1)
stmt_row_at ss m ns at = at

pub row_stmts_at : (ss : Stmts) (m : Memory) (ns : List Node) → RowAt (stmt_row ss) m ns → StmtsAt ss m ns
row_stmts_at (Then s rest) m (n ∷ ns) at = (at.0, row_stmts_at rest m ns at.1)
row_stmts_at ss m ns at = at

pub stmt_row_blocks : (ss : Stmts) (m : Memory) (ns : List Node)
    → (stmts_lists ss m ns ≡ row_lists (stmt_row ss) m ns) × (stmts_texts ss m ns ≡ row_texts (stmt_row ss) m ns)
stmt_row_blocks (Then s rest) m (n ∷ ns) =
    let r = stmt_row_blocks rest m ns in
    (ap (λ bs. stmt_lists s m n ++ bs) r.0, ap (λ bs. stmt_texts s m n ++ bs) r.1)
stmt_row_blocks ss m ns = (refl, refl)

pub row_length : (ts : List Subtree) (m : Memory) (ns : List Node) → RowAt ts m ns → length ts ≡ length ns
row_length [] m [] at = refl
row_length (t ∷ ts) m (n ∷ ns) at = ap suc (row_length ts m ns at.1)
row_length ts m ns at = absurd at

-- ---- Children

abbrev pub own_texts : Subtree → Node → List Block
own_texts (OfStmt (Let name e)) n = n.text.block ∷ []
own_texts t n = []

-- how many bytes its own text has
abbrev pub own_bytes : Subtree → ℕ
own_bytes (OfExpr (Name bytes)) = length bytes
own_bytes (OfStmt (Let name e)) = length name
own_bytes t = 0

-- the children of a node, and its blocks
pub record KidsAt (ks : List Subtree) (own : List Block) (m : Memory) (n : Node) (ls ts : List Block) : Type 0 where
  pub held : IsVecIn node_item m (kids_of n)
  pub stand : RowAt ks m (kids_in m n)
  pub lists_are : ls ≡ n.kids ∷ row_lists ks m (kids_in m n)
  pub texts_are : ts ≡ own ++ row_texts ks m (kids_in m n)

one_at : (e : Expr) (m : Memory) (ns : List Node) → IsOnly ns (λ k. ExprAt e m k) → RowAt (OfExpr e ∷ []) m ns
one_at e m ns at = grind (arith, nat_tests)

one_blocks : (e : Expr) (m : Memory) (ns : List Node) → (of_first ns (λ k. expr_lists e m k) ≡ row_lists (OfExpr e ∷ []) m ns)
    × (of_first ns (λ k. expr_texts e m k) ≡ row_texts (OfExpr e ∷ []) m ns)
one_blocks e m ns = grind (arith, nat_tests, append-nil)

kids_as : (own : List Block) (ks : List Subtree) (m : Memory) (n : Node) {ls ts : List Block} → IsVecIn node_item m (kids_of n)
    → RowAt ks m (kids_in m n) → (ls ≡ row_lists ks m (kids_in m n)) × (ts ≡ row_texts ks m (kids_in m n))
    → KidsAt ks own m n (n.kids ∷ ls) (own ++ ts)
kids_as own ks m n held row are = grind (arith, nat_tests)

pub true_false : true ≡ false → ⊥
true_false is = cc

pub kids_at : (t : Subtree) (m : Memory) (n : Node) → SubtreeAt t m n → has_kids n.kind ≡ true
    → KidsAt (kids_it t) (own_texts t n) m n (lists_at t m n) (texts_at t m n)
kids_at (OfExpr (Neg e)) m n at is = kids_as [] (OfExpr e ∷ []) m n at.1 (one_at e m _ at.2) (one_blocks e m (kids_in m n))
kids_at (OfExpr (Sum kids)) m n at is =
    kids_as [] (expr_row kids) m n at.1 (expr_row_at kids m _ at.2) (expr_row_blocks kids m (kids_in m n))
kids_at (OfExpr (Prod kids)) m n at is =
    kids_as [] (expr_row kids) m n at.1 (expr_row_at kids m _ at.2) (expr_row_blocks kids m (kids_in m n))
kids_at (OfStmt (Let name e)) m n at is =
    kids_as (n.text.block ∷ []) (OfExpr e ∷ []) m n at.3 (one_at e m _ at.4) (one_blocks e m (kids_in m n))
kids_at (OfStmt (Show e)) m n at is = kids_as [] (OfExpr e ∷ []) m n at.1 (one_at e m _ at.2) (one_blocks e m (kids_in m n))
kids_at (OfStmt (tree.Block body)) m n at is =
    kids_as [] (stmt_row body) m n at.1 (stmt_row_at body m _ at.2) (stmt_row_blocks body m (kids_in m n))
kids_at t m n at is = absurd (true_false (sym is ∙ ap has_kids at.0))
