-- Nodes that hold nothing that their kinds don't use.
use Rattle.std.proofs.lemmas.Bool.Decides.{nat_tests}
use Rattle.std.proofs.Common.{arith, ◌≡◌, ℕ, zero, suc, ap, sym, refl, subst, ◌∙◌, true, List, [], ◌∷◌, ◌++◌, drop, append-nil}
use Rattle.arena_chunks.specs.Memory.{Memory}
use Rattle.arena_store.specs.declared.block.Block.{Block}
use Rattle.arena_items.specs.Footprint.{Agree}
use Rattle.arena_items.proofs.Layers.{elements-empty}
use Rattle.arena_vec.specs.Vecs.{vec_list}
use Rattle.tree_rules.specs.Trees.{Expr, Num, Name, Neg, Sum, Prod, Exprs, NoExprs, And, Let, Show, Stmts, NoStmts, Then}
use Rattle.tree_rules.specs.Trees as tree
use Rattle.tree_nodes.specs.declared.node.Node.{Node}
use Rattle.tree_nodes.specs.NodeForms.{number_node}
use Rattle.tree_nodes.specs.TreesAt.{node_item, kids_of, kids_in, no_kids, IsLeanFor, IsLean, AreLeanTo, AreLean, of_first, expr_blocks, exprs_blocks}
use Rattle.tree_nodes.specs.StmtsAt.{stmt_blocks, stmts_blocks}
use Rattle.arena_kinds.specs.laws.KindLaws.{agree_each}
use Rattle.tree_nodes.specs.laws.TreeLaws.{list_same}
use Rattle.tree_nodes.specs.Subtrees.{Subtree, OfExpr, OfStmt, SubtreeAt, blocks_at, expr_row, stmt_row, RowAt, row_blocks, has_kids}
use Rattle.tree_nodes.proofs.SubtreeLemmas.{kids_it, kids_at, true_false}

-- ---- Lists, and one node

pub lean_none : (m : Memory) → AreLean m []
lean_none m h = grind (arith, nat_tests)

pub lean_both : (m : Memory) (ns ks : List Node) → AreLean m ns → AreLean m ks → AreLean m (ns ++ ks)
lean_both m ns ks first second zero = tt
lean_both m [] ks first second (suc depth) = second (suc depth)
lean_both m (n ∷ ns) ks first second (suc depth) =
    ((first (suc depth)).0, lean_both m ns ks (λ d. rest d) second (suc depth))
  where
    rest : (d : ℕ) → AreLeanTo d m ns
    rest zero = tt
    rest (suc d) = (first (suc d)).1

pub node_lean : (m : Memory) (n : Node) → IsLean n → AreLean m (kids_in m n) → AreLean m (n ∷ [])
node_lean m n own below h = grind (arith, nat_tests)

pub own_lean : (m : Memory) (n : Node) → AreLean m (n ∷ []) → IsLean n
own_lean m n lean = (lean 1).0.0

pub below_lean : (m : Memory) (n : Node) → AreLean m (n ∷ []) → AreLean m (kids_in m n)
below_lean m n lean depth = (lean (suc depth)).0.1

pub leaf_lean : (m : Memory) (n : Node) → kids_of n ≡ no_kids → AreLean m (kids_in m n)
leaf_lean m n none = subst (AreLean m) (sym (ap (vec_list node_item m) none)) (empty m)
  where
    empty : (m : Memory) → AreLean m (vec_list node_item m no_kids)
    empty m = subst (AreLean m) (sym (elements-empty 88 node_item.decoded 0 _ refl)) (lean_none m)

pub number_lean : (m : Memory) (k : ℕ) (n : Node) → n ≡ number_node k → AreLean m (n ∷ [])
number_lean m k n is = subst (λ n. AreLean m (n ∷ [])) (sym is) (node_lean m (number_node k) (refl, refl) (leaf_lean m (number_node k) refl))

-- the first, and those after an index
pub lean_first : (m : Memory) (n : Node) (ns : List Node) → AreLean m (n ∷ ns) → AreLean m (n ∷ [])
lean_first m n ns lean zero = tt
lean_first m n ns lean (suc depth) = ((lean (suc depth)).0, tt)

pub lean_rest : (m : Memory) (n : Node) (ns : List Node) → AreLean m (n ∷ ns) → AreLean m ns
lean_rest m n ns lean zero = tt
lean_rest m n ns lean (suc depth) = (lean (suc depth)).1

pub lean_behind : (m : Memory) (i : ℕ) (ns : List Node) → AreLean m ns → AreLean m (drop i ns)
lean_behind m zero ns lean = lean
lean_behind m (suc i) [] lean = lean
lean_behind m (suc i) (n ∷ ns) lean = lean_behind m i ns (lean_rest m n ns lean)

-- ---- The same bytes in its blocks

pub expr_blocks_are : (es : Exprs) (m : Memory) (ns : List Node) → row_blocks (expr_row es) m ns ≡ exprs_blocks es m ns
expr_blocks_are (And e rest) m (n ∷ ns) = ap (λ bs. expr_blocks e m n ++ bs) (expr_blocks_are rest m ns)
expr_blocks_are es m ns = refl

pub stmt_blocks_are : (ss : Stmts) (m : Memory) (ns : List Node) → row_blocks (stmt_row ss) m ns ≡ stmts_blocks ss m ns
stmt_blocks_are (Then s rest) m (n ∷ ns) = ap (λ bs. stmt_blocks s m n ++ bs) (stmt_blocks_are rest m ns)
stmt_blocks_are ss m ns = refl

one_block : (e : Expr) (m : Memory) (ns : List Node) → of_first ns (λ k. expr_blocks e m k) ≡ row_blocks (OfExpr e ∷ []) m ns
one_block e m ns = grind (arith, nat_tests, append-nil)

-- The children of a node are the same, on the same blocks.
abbrev KidsAgree : Subtree → Memory → Memory → Node → Type 0
KidsAgree t a c n = (kids_in c n ≡ kids_in a n) × Agree a c (row_blocks (kids_it t) a (kids_in a n))

kids_agree : (t : Subtree) (a c : Memory) (n : Node) → SubtreeAt t a n → has_kids n.kind ≡ true → Agree a c (blocks_at t a n)
    → KidsAgree t a c n
kids_agree t a c n at is same = by t at same
  where
    in_row : {bs cs : List Block} → bs ≡ cs → Agree a c (n.kids ∷ bs) → (kids_in c n ≡ kids_in a n) × Agree a c cs
    in_row are same = (list_same a c (kids_of n) same.0, subst (Agree a c) are same.1)

    by : (t : Subtree) → SubtreeAt t a n → Agree a c (blocks_at t a n) → KidsAgree t a c n
    by (OfExpr (Neg e)) at same = in_row (one_block e a (kids_in a n)) same
    by (OfExpr (Sum es)) at same = in_row (sym (expr_blocks_are es a (kids_in a n))) same
    by (OfExpr (Prod es)) at same = in_row (sym (expr_blocks_are es a (kids_in a n))) same
    by (OfStmt (Let name e)) at same = in_row (one_block e a (kids_in a n)) same.1
    by (OfStmt (Show e)) at same = in_row (one_block e a (kids_in a n)) same
    by (OfStmt (tree.Block body)) at same = in_row (sym (stmt_blocks_are body a (kids_in a n))) same
    by t at same = absurd (true_false (sym is ∙ ap has_kids at.0))

abbrev Stays : ℕ → Memory → Memory → Type 0
Stays d a c = (ts : List Subtree) (ns : List Node) → RowAt ts a ns → Agree a c (row_blocks ts a ns) → AreLeanTo d a ns → AreLeanTo d c ns

module _ (d : ℕ) (a c : Memory) (below : Stays d a c) where
  branch : (t : Subtree) (n : Node) → SubtreeAt t a n → has_kids n.kind ≡ true → Agree a c (blocks_at t a n)
      → AreLeanTo d a (kids_in a n) → AreLeanTo d c (kids_in c n)
  branch t n at is same lean = grind (arith, nat_tests, kids_agree, kids_it, kids_at)

  kids_stay : (t : Subtree) (n : Node) → SubtreeAt t a n → Agree a c (blocks_at t a n) → IsLean n → AreLeanTo d a (kids_in a n)
      → AreLeanTo d c (kids_in c n)
  kids_stay (OfExpr (Num k)) n at same own lean = leaf_lean c n (subst (λ k. IsLeanFor k n) at.0 own).1 d
  kids_stay (OfExpr (Name bytes)) n at same own lean = leaf_lean c n (subst (λ k. IsLeanFor k n) at.0 own).1 d
  kids_stay (OfStmt (Let name e)) n at same own lean = branch (OfStmt (Let name e)) n at (ap has_kids at.0) same lean
  kids_stay t n at same own lean = branch t n at (ap has_kids at.0) same lean

  row_lean : Stays (suc d) a c
  row_lean [] [] at same lean = tt
  row_lean (t ∷ ts) (n ∷ ns) at same lean =
      let each = agree_each a c (blocks_at t a n) (row_blocks ts a ns) same in
      ((lean.0.0, kids_stay t n at.0 each.0 lean.0.0 lean.0.1), row_lean ts ns at.1 each.1 lean.1)
  row_lean ts ns at same lean = absurd at

stays : (d : ℕ) (a c : Memory) → Stays d a c
stays zero a c ts ns at same lean = tt
stays (suc d) a c ts ns at same lean = row_lean d a c (stays d a c) ts ns at same lean

pub row_stays_lean : (ts : List Subtree) (a c : Memory) (ns : List Node) → RowAt ts a ns → Agree a c (row_blocks ts a ns)
    → AreLean a ns → AreLean c ns
row_stays_lean ts a c ns at same lean d = stays d a c ts ns at same (lean d)

pub it_stays_lean : (t : Subtree) (a c : Memory) (n : Node) → SubtreeAt t a n → Agree a c (blocks_at t a n) → AreLean a (n ∷ [])
    → AreLean c (n ∷ [])
it_stays_lean t a c n at same =
    row_stays_lean (t ∷ []) a c (n ∷ []) (at, tt) (subst (Agree a c) (sym (append-nil (blocks_at t a n))) same)
