-- The blocks of statements determine them.
use Rattle.std.proofs.Common.{◌≡◌, ap, sym, refl, subst, ◌∙◌, List, [], ◌∷◌, ◌++◌}
use Rattle.arena_chunks.specs.Memory.{Memory}
use Rattle.arena_items.specs.Footprint.{AreReadable, Agree}
use Rattle.tree_rules.specs.Trees.{Expr, Stmt, Let, Show, Stmts, NoStmts, Then}
use Rattle.tree_rules.specs.Trees as tree
use Rattle.tree_nodes.specs.declared.node.Node.{Node}
use Rattle.tree_nodes.specs.TreesAt.{kids_of, kids_in, IsOnly, of_first, ExprAt, Which, OfBoth, with_list, with_text, expr_named, expr_blocks}
use Rattle.tree_nodes.specs.StmtsAt.{StmtAt, StmtsAt, stmt_named, stmts_named, stmt_blocks, stmts_blocks}
use Rattle.arena_kinds.specs.laws.KindLaws.{readable_both, readable_each, agree_each}
use Rattle.tree_nodes.specs.laws.TreeLaws.{list_same, list_held, expr_readable, expr_same, expr_again, first_agree, only_again}

only_readable : (e : Expr) (m : Memory) (ns : List Node) → IsOnly ns (λ k. ExprAt e m k) → AreReadable m.state (of_first ns (λ k.
    expr_blocks e m k))
only_readable e m [] at = tt
only_readable e m (k ∷ []) at = expr_readable e m k at
only_readable e m (k ∷ l ∷ ks) at = absurd at

mutual
  pub stmt_readable : (s : Stmt) (m : Memory) (n : Node) → StmtAt s m n → AreReadable m.state (stmt_blocks s m n)
  stmt_readable (Let name e) m n at = (at.1, (at.3.place.readable, only_readable e m (kids_in m n) at.4))
  stmt_readable (Show e) m n at = (at.1.place.readable, only_readable e m (kids_in m n) at.2)
  stmt_readable (tree.Block body) m n at = (at.1.place.readable, stmts_readable body m (kids_in m n) at.2)

  pub stmts_readable : (ss : Stmts) (m : Memory) (ns : List Node) → StmtsAt ss m ns → AreReadable m.state (stmts_blocks ss m ns)
  stmts_readable NoStmts m [] at = tt
  stmts_readable NoStmts m (n ∷ ns) at = absurd at
  stmts_readable (Then s rest) m [] at = absurd at
  stmts_readable (Then s rest) m (n ∷ ns) at =
      readable_both m (stmt_blocks s m n) (stmts_blocks rest m ns) (stmt_readable s m n at.0) (stmts_readable rest m ns at.1)

only_same : (w : Which) (e : Expr) (a c : Memory) (n : Node) → Agree a c (n.kids ∷ of_first (kids_in a n) (λ k. expr_blocks e a k))
    → with_list w n.kids (of_first (kids_in c n) (λ k. expr_named w e c k))
    ≡ with_list w n.kids (of_first (kids_in a n) (λ k. expr_named w e a k))
only_same w e a c n agree =
    ap (λ ns. with_list w n.kids (of_first ns (λ k. expr_named w e c k))) (list_same a c (kids_of n) agree.0)
    ∙ ap (with_list w n.kids) (first_agree a c (kids_in a n) (λ k. expr_blocks e a k) (λ k. expr_named w e a k)
    (λ k. expr_named w e c k) (λ k same. expr_same w e a c k same) agree.1)

mutual
  pub stmt_same : (w : Which) (s : Stmt) (a c : Memory) (n : Node) → Agree a c (stmt_blocks s a n) → stmt_named w s c n ≡ stmt_named w s a n
  stmt_same w (Let name e) a c n agree = ap (with_text w n.text.block) (only_same w e a c n agree.1)
  stmt_same w (Show e) a c n agree = only_same w e a c n agree
  stmt_same w (tree.Block body) a c n agree =
      ap (λ ns. with_list w n.kids (stmts_named w body c ns)) (list_same a c (kids_of n) agree.0)
      ∙ ap (with_list w n.kids) (stmts_same w body a c (kids_in a n) agree.1)

  pub stmts_same : (w : Which) (ss : Stmts) (a c : Memory) (ns : List Node) → Agree a c (stmts_blocks ss a ns)
      → stmts_named w ss c ns ≡ stmts_named w ss a ns
  stmts_same w NoStmts a c ns agree = refl
  stmts_same w (Then s rest) a c [] agree = refl
  stmts_same w (Then s rest) a c (n ∷ ns) agree =
      let each = agree_each a c (stmt_blocks s a n) (stmts_blocks rest a ns) agree in
      λ i. stmt_same w s a c n each.0 i ++ stmts_same w rest a c ns each.1 i

pub stmt_names : (s : Stmt) (a c : Memory) (n : Node) → Agree a c (stmt_blocks s a n) → stmt_blocks s c n ≡ stmt_blocks s a n
stmt_names = stmt_same OfBoth

pub stmts_names : (ss : Stmts) (a c : Memory) (ns : List Node) → Agree a c (stmts_blocks ss a ns)
    → stmts_blocks ss c ns ≡ stmts_blocks ss a ns
stmts_names = stmts_same OfBoth

kids_again : (e : Expr) (a c : Memory) (n : Node) → IsOnly (kids_in a n) (λ k. ExprAt e a k)
    → Agree a c (n.kids ∷ of_first (kids_in a n) (λ k. expr_blocks e a k))
    → AreReadable c.state (n.kids ∷ of_first (kids_in a n) (λ k. expr_blocks e a k)) → IsOnly (kids_in c n) (λ k. ExprAt e c k)
kids_again e a c n at agree readable =
    subst (λ ns. IsOnly ns (λ k. ExprAt e c k)) (sym (list_same a c (kids_of n) agree.0))
    (only_again a c (kids_in a n) e (λ k is same reads. expr_again e a c k is same reads) at agree.1 readable.1)

mutual
  pub stmt_again : (s : Stmt) (a c : Memory) (n : Node) → StmtAt s a n → Agree a c (stmt_blocks s a n)
      → AreReadable c.state (stmt_blocks s a n) → StmtAt s c n
  stmt_again (Let name e) a c n at agree readable =
      (at.0, readable.0, sym agree.0 ∙ at.2, list_held a c (kids_of n) at.3 readable.1.0, kids_again e a c n at.4 agree.1 readable.1)
  stmt_again (Show e) a c n at agree readable = (at.0, list_held a c (kids_of n) at.1 readable.0, kids_again e a c n at.2 agree readable)
  stmt_again (tree.Block body) a c n at agree readable = (
    at.0,
    list_held a c (kids_of n) at.1 readable.0,
    subst (StmtsAt body c) (sym (list_same a c (kids_of n) agree.0)) (stmts_again body a c (kids_in a n) at.2 agree.1 readable.1),
  )

  pub stmts_again : (ss : Stmts) (a c : Memory) (ns : List Node) → StmtsAt ss a ns → Agree a c (stmts_blocks ss a ns)
      → AreReadable c.state (stmts_blocks ss a ns) → StmtsAt ss c ns
  stmts_again NoStmts a c [] at agree readable = tt
  stmts_again NoStmts a c (n ∷ ns) at agree readable = absurd at
  stmts_again (Then s rest) a c [] at agree readable = absurd at
  stmts_again (Then s rest) a c (n ∷ ns) at agree readable =
      let each = agree_each a c (stmt_blocks s a n) (stmts_blocks rest a ns) agree in
      let reads = readable_each c (stmt_blocks s a n) (stmts_blocks rest a ns) readable in
      (stmt_again s a c n at.0 each.0 reads.0, stmts_again rest a c ns at.1 each.1 reads.1)
