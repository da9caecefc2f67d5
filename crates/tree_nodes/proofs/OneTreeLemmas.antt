-- A node represents at most one tree.
use Rattle.std.proofs.lemmas.Bool.Decides.{nat_tests}
use Rattle.std.proofs.Common.{arith, ◌≡◌, ap, sym, refl, ◌∙◌, List, [], ◌∷◌}
use Rattle.arena_chunks.specs.Memory.{Memory}
use Rattle.tree_rules.specs.Trees.{Expr, Num, Name, Neg, Sum, Prod, Exprs, NoExprs, And, Stmt, Let, Show, Stmts, NoStmts, Then}
use Rattle.tree_rules.specs.Trees as tree
use Rattle.tree_nodes.specs.declared.node.Kind.TheVariants as kind
use Rattle.tree_nodes.specs.declared.node.Node.{Node}
use Rattle.tree_nodes.specs.TreesAt.{kids_in, IsOnly, ExprAt, ExprsAt}
use Rattle.tree_nodes.specs.StmtsAt.{StmtAt, StmtsAt}
use Rattle.tree_nodes.proofs.WalkLemmas.{seen, line_seen}

only_same : (e f : Expr) (m : Memory) (ns : List Node) → ((k : Node) → ExprAt e m k → ExprAt f m k → e ≡ f) → IsOnly ns (λ k. ExprAt e m k)
    → IsOnly ns (λ k. ExprAt f m k) → e ≡ f
only_same e f m ns each one two = grind (arith, nat_tests)

mutual
  one_expr : (e f : Expr) (m : Memory) (n : Node) → ExprAt e m n → ExprAt f m n → e ≡ f
  one_expr (Num k) f m n one two = ap Num (sym one.1) ∙ sym (seen kind.Num m n one.0 f two)
  one_expr (Name bytes) f m n one two = ap Name (sym one.2) ∙ sym (seen kind.Name m n one.0 f two).1
  one_expr (Neg e) f m n one two =
      let s = seen kind.Neg m n one.0 f two in
      ap Neg (only_same e s.1 m (kids_in m n) (λ k a b. one_expr e s.1 m k a b) one.2 s.3) ∙ sym s.2
  one_expr (Sum kids) f m n one two =
      let s = seen kind.Sum m n one.0 f two in
      ap Sum (one_exprs kids s.1 m (kids_in m n) one.2 s.3) ∙ sym s.2
  one_expr (Prod kids) f m n one two =
      let s = seen kind.Prod m n one.0 f two in
      ap Prod (one_exprs kids s.1 m (kids_in m n) one.2 s.3) ∙ sym s.2

  one_exprs : (es fs : Exprs) (m : Memory) (ns : List Node) → ExprsAt es m ns → ExprsAt fs m ns → es ≡ fs
  one_exprs NoExprs NoExprs m [] one two = refl
  one_exprs (And e es) (And f fs) m (n ∷ ns) one two = λ i. And (one_expr e f m n one.0 two.0 i) (one_exprs es fs m ns one.1 two.1 i)
  one_exprs NoExprs (And f fs) m [] one two = absurd two
  one_exprs (And e es) NoExprs m (n ∷ ns) one two = absurd two
  one_exprs es fs m ns one two = absurd one

mutual
  one_stmt : (s t : Stmt) (m : Memory) (n : Node) → StmtAt s m n → StmtAt t m n → s ≡ t
  one_stmt (Let name e) t m n one two =
      let v = line_seen kind.Let m n one.0 t two in
      (λ i. Let (sym one.2 i) (only_same e v.2 m (kids_in m n) (λ k a b. one_expr e v.2 m k a b) one.4 v.4 i)) ∙ sym v.3
  one_stmt (Show e) t m n one two =
      let v = line_seen kind.Show m n one.0 t two in
      ap Show (only_same e v.1 m (kids_in m n) (λ k a b. one_expr e v.1 m k a b) one.2 v.3) ∙ sym v.2
  one_stmt (tree.Block body) t m n one two =
      let v = line_seen kind.Block m n one.0 t two in
      ap tree.Block (one_stmts body v.1 m (kids_in m n) one.2 v.3) ∙ sym v.2

  pub one_stmts : (ss ts : Stmts) (m : Memory) (ns : List Node) → StmtsAt ss m ns → StmtsAt ts m ns → ss ≡ ts
  one_stmts NoStmts NoStmts m [] one two = refl
  one_stmts (Then s ss) (Then t ts) m (n ∷ ns) one two = λ i. Then (one_stmt s t m n one.0 two.0 i) (one_stmts ss ts m ns one.1 two.1 i)
  one_stmts NoStmts (Then t ts) m [] one two = absurd two
  one_stmts (Then s ss) NoStmts m (n ∷ ns) one two = absurd two
  one_stmts ss ts m ns one two = absurd one
