-- A tree has no more nodes than the arena has room for: so a walk over it ends, and its nodes can be counted.
use Rattle.std.proofs.lemmas.Bool.Decides.{nat_tests}
use Rattle.std.proofs.Common.{◌≡◌, ◌+◌, ◌*◌, ◌≤◌, List, [], ◌∷◌, ◌++◌, length, arith, ℕ, refl, ap, ◌∙◌, subst, IsTrue}
use Rattle.std.proofs.lemmas.List.Sums.{sum_by-cons}
use Rattle.std.specs.Prelude.{map}
use Rattle.std.specs.List.{AllByRecursion, sum}
use Rattle.arena_chunks.specs.Memory.{Memory, is_readable}
use Rattle.arena_chunks.specs.Frame.{ArePairwiseApart}
use Rattle.arena_store.specs.declared.block.Block.{Block}
use Rattle.arena_chunks.proofs.Layers.{readable_together}
use Rattle.arena_rules.specs.State.{State, used_bytes}
use Rattle.arena_vec.specs.Vecs.{IsVecIn, vec_list}
use Rattle.arena_vec.specs.declared.vec.Vec.{Vec}
use Rattle.tree_rules.specs.Trees.{Expr, Num, Name, Neg, Sum, Prod, Exprs, NoExprs, And, Stmt, Let, Show, Stmts, NoStmts, Then}
use Rattle.tree_rules.specs.Trees as tree
use Rattle.tree_nodes.specs.declared.node.Node.{Node}
use Rattle.tree_nodes.specs.TreesAt.{node_item, kids_of, kids_in, IsOnly, of_first, ExprAt, ExprsAt}
use Rattle.tree_nodes.specs.StmtsAt.{StmtAt, StmtsAt}
use Rattle.tree_nodes.specs.laws.StmtLaws.{stmts_readable}
use Rattle.tree_nodes.specs.Lists.{expr_lists, exprs_lists, stmt_lists, stmts_lists}
use Rattle.tree_nodes.specs.Counts.{below, nodes, below_stmt, stmt_nodes}
use Rattle.tree_nodes.proofs.PartsLemmas.{parts_readable, stmts_parts}
use Rattle.tree_nodes.proofs.WalkLemmas.{list_len}

abbrev sizes : List Block → ℕ
sizes [] = 0
sizes (b ∷ bs) = b.size + sizes bs

sizes_used : (state : State) (bs : List Block) → AllByRecursion (λ (b : Block). IsTrue (is_readable state b)) bs → ArePairwiseApart bs
    → sizes bs ≤ used_bytes state
sizes_used state bs readable apart = subst (λ n. n ≤ used_bytes state) (total bs) (readable_together state bs readable apart)
  where
    total : (bs : List Block) → sum (map (λ (b : Block). b.size) bs) ≡ sizes bs
    total [] = refl
    total (b ∷ bs) = sum_by-cons (λ (n : ℕ). n) b.size (map (λ (b : Block). b.size) bs) ∙ ap (λ n. b.size + n) (total bs)

sizes_both : (bs cs : List Block) → sizes (bs ++ cs) ≡ sizes bs + sizes cs
sizes_both [] cs = omega arith
sizes_both (b ∷ bs) cs = omega (arith, sizes_both bs cs)

-- a list's block has 88 bytes at least for each of its nodes
list_size : (m : Memory) (v : Vec Node) → IsVecIn node_item m v → 88 * length (vec_list node_item m v) ≤ v.raw.block.size
list_size m v held = grind (arith, nat_tests, list_len)

-- the one child of a node
kid_size : (e : Expr) (m : Memory) (n : Node) → ((k : Node) → ExprAt e m k → 88 * below e ≤ sizes (expr_lists e m k))
    → IsVecIn node_item m (kids_of n) → IsOnly (kids_in m n) (λ k. ExprAt e m k)
    → 88 * (1 + below e) ≤ n.kids.size + sizes (of_first (kids_in m n) (λ k. expr_lists e m k))
kid_size e m n each held at = omega (arith, only (kids_in m n) at, list_size m (kids_of n) held)
  where
    only : (ns : List Node) → IsOnly ns (λ k. ExprAt e m k)
        → 88 * (1 + below e) ≤ 88 * length ns + sizes (of_first ns (λ k. expr_lists e m k))
    only (k ∷ []) at = omega (arith, each k at)
    only ns at = absurd at

mutual
  expr_size : (e : Expr) (m : Memory) (n : Node) → ExprAt e m n → 88 * below e ≤ sizes (expr_lists e m n)
  expr_size (Num k) m n at = omega arith
  expr_size (Name bytes) m n at = omega arith
  expr_size (Neg e) m n at = omega (arith, kid_size e m n (λ k is. expr_size e m k is) at.1 at.2)
  expr_size (Sum kids) m n at = omega (arith, exprs_size kids m (kids_in m n) at.2, list_size m (kids_of n) at.1)
  expr_size (Prod kids) m n at = omega (arith, exprs_size kids m (kids_in m n) at.2, list_size m (kids_of n) at.1)

  exprs_size : (es : Exprs) (m : Memory) (ns : List Node) → ExprsAt es m ns → 88 * nodes es ≤ 88 * length ns + sizes (exprs_lists es m ns)
  exprs_size NoExprs m [] at = omega arith
  exprs_size (And e rest) m (n ∷ ns) at =
      omega (arith, expr_size e m n at.0, exprs_size rest m ns at.1, sizes_both (expr_lists e m n) (exprs_lists rest m ns))
  exprs_size es m ns at = absurd at

mutual
  stmt_size : (s : Stmt) (m : Memory) (n : Node) → StmtAt s m n → 88 * below_stmt s ≤ sizes (stmt_lists s m n)
  stmt_size (Let name e) m n at = omega (arith, kid_size e m n (λ k is. expr_size e m k is) at.3 at.4)
  stmt_size (Show e) m n at = omega (arith, kid_size e m n (λ k is. expr_size e m k is) at.1 at.2)
  stmt_size (tree.Block body) m n at = omega (arith, stmts_size body m (kids_in m n) at.2, list_size m (kids_of n) at.1)

  stmts_size : (ss : Stmts) (m : Memory) (ns : List Node) → StmtsAt ss m ns
      → 88 * stmt_nodes ss ≤ 88 * length ns + sizes (stmts_lists ss m ns)
  stmts_size NoStmts m [] at = omega arith
  stmts_size (Then s rest) m (n ∷ ns) at =
      omega (arith, stmt_size s m n at.0, stmts_size rest m ns at.1, sizes_both (stmt_lists s m n) (stmts_lists rest m ns))
  stmts_size ss m ns at = absurd at

-- All nodes of a list of statements have room in the bytes in use.
pub nodes_used : (ss : Stmts) (m : Memory) (v : Vec Node) → IsVecIn node_item m v → StmtsAt ss m (vec_list node_item m v)
    → ArePairwiseApart (v.raw.block ∷ stmts_lists ss m (vec_list node_item m v)) → 88 * stmt_nodes ss ≤ used_bytes m.state
nodes_used ss m v held at apart =
    let ns = vec_list node_item m v in
    let lists = (parts_readable m _ _ _ (stmts_parts ss m ns) (stmts_readable ss m ns at)).0 in
    let all = sizes_used m.state (v.raw.block ∷ stmts_lists ss m ns) (held.place.readable, lists) apart in
    omega (arith, all, stmts_size ss m ns at, list_size m v held)
