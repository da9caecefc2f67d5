-- A tree's blocks are its lists' and its texts'.
use Rattle.std.proofs.Common.{ℕ, List, [], ◌∷◌, ◌++◌}
use Rattle.arena_chunks.specs.Memory.{Memory}
use Rattle.arena_chunks.specs.Frame.{IsApart, AreAllApart, ArePairwiseApart}
use Rattle.arena_store.specs.declared.block.Block.{Block}
use Rattle.arena_chunks.proofs.Layers.{blocks_turned}
use Rattle.arena_items.specs.Footprint.{AreReadable}
use Rattle.tree_rules.specs.Trees.{Expr, Num, Name, Neg, Sum, Prod, Exprs, NoExprs, And, Stmt, Let, Show, Stmts, NoStmts, Then}
use Rattle.tree_rules.specs.Trees as tree
use Rattle.tree_nodes.specs.declared.node.Node.{Node}
use Rattle.tree_nodes.specs.TreesAt.{kids_in, of_first, expr_blocks, exprs_blocks}
use Rattle.tree_nodes.specs.StmtsAt.{stmt_blocks, stmts_blocks}
use Rattle.tree_nodes.specs.Lists.{expr_lists, exprs_lists, expr_texts, exprs_texts, stmt_lists, stmts_lists, stmt_texts, stmts_texts}

-- Some blocks are others, in two parts that keep their order.
pub data Parts : List Block → List Block → List Block → Type 0 where
  None : Parts [] [] []
  First : (b : Block) (bs ls ts : List Block) → Parts bs ls ts → Parts (b ∷ bs) (b ∷ ls) ts
  Second : (b : Block) (bs ls ts : List Block) → Parts bs ls ts → Parts (b ∷ bs) ls (b ∷ ts)

pub parts_both : (bs ls ts cs ks us : List Block) → Parts bs ls ts → Parts cs ks us → Parts (bs ++ cs) (ls ++ ks) (ts ++ us)
parts_both bs ls ts cs ks us None more = more
parts_both bs ls ts cs ks us (First b bs' ls' ts' p) more = First b _ _ _ (parts_both bs' ls' ts' cs ks us p more)
parts_both bs ls ts cs ks us (Second b bs' ls' ts' p) more = Second b _ _ _ (parts_both bs' ls' ts' cs ks us p more)

pub parts_readable : (m : Memory) (bs ls ts : List Block) → Parts bs ls ts → AreReadable m.state bs → AreReadable m.state ls
    × AreReadable m.state ts
parts_readable m bs ls ts None r = (tt, tt)
parts_readable m bs ls ts (First b bs' ls' ts' p) r = let rest = parts_readable m bs' ls' ts' p r.1 in ((r.0, rest.0), rest.1)
parts_readable m bs ls ts (Second b bs' ls' ts' p) r = let rest = parts_readable m bs' ls' ts' p r.1 in (rest.0, (r.0, rest.1))

pub parts_apart : (addr n : ℕ) (bs ls ts : List Block) → Parts bs ls ts → IsApart addr n bs → IsApart addr n ls × IsApart addr n ts
parts_apart addr n bs ls ts None h = (tt, tt)
parts_apart addr n bs ls ts (First b bs' ls' ts' p) h = let rest = parts_apart addr n bs' ls' ts' p h.1 in ((h.0, rest.0), rest.1)
parts_apart addr n bs ls ts (Second b bs' ls' ts' p) h = let rest = parts_apart addr n bs' ls' ts' p h.1 in (rest.0, (h.0, rest.1))

-- one more apart from each
pub all_before : (b : Block) (ts ls : List Block) → IsApart b.addr b.size ts → AreAllApart ts ls → AreAllApart ts (b ∷ ls)
all_before b [] ls h all = tt
all_before b (t ∷ ts) ls h all = ((blocks_turned b t h.0, all.0), all_before b ts ls h.1 all.1)

pub parts_pairwise : (bs ls ts : List Block) → Parts bs ls ts → ArePairwiseApart bs → ArePairwiseApart ls × AreAllApart ts ls
parts_pairwise bs ls ts None h = (tt, tt)
parts_pairwise bs ls ts (First b bs' ls' ts' p) h =
    let rest = parts_pairwise bs' ls' ts' p h.1 in
    let one = parts_apart b.addr b.size bs' ls' ts' p h.0 in
    ((one.0, rest.0), all_before b ts' ls' one.1 rest.1)
parts_pairwise bs ls ts (Second b bs' ls' ts' p) h =
    let rest = parts_pairwise bs' ls' ts' p h.1 in
    let one = parts_apart b.addr b.size bs' ls' ts' p h.0 in
    (rest.0, (one.0, rest.1))

-- of a node with one child
one_parts : (e : Expr) (m : Memory) (n : Node) → ((k : Node) → Parts (expr_blocks e m k) (expr_lists e m k) (expr_texts e m k))
    → Parts (n.kids ∷ of_first (kids_in m n) (λ k. expr_blocks e m k)) (n.kids ∷ of_first (kids_in m n) (λ k. expr_lists e m k))
    (of_first (kids_in m n) (λ k. expr_texts e m k))
one_parts e m n each = First n.kids _ _ _ (first (kids_in m n))
  where
    first : (ns : List Node)
        → Parts (of_first ns (λ k. expr_blocks e m k)) (of_first ns (λ k. expr_lists e m k)) (of_first ns (λ k. expr_texts e m k))
    first [] = None
    first (k ∷ ks) = each k

mutual
  pub expr_parts : (e : Expr) (m : Memory) (n : Node) → Parts (expr_blocks e m n) (expr_lists e m n) (expr_texts e m n)
  expr_parts (Num k) m n = None
  expr_parts (Name bytes) m n = Second n.text.block [] [] [] None
  expr_parts (Neg e) m n = one_parts e m n (λ k. expr_parts e m k)
  expr_parts (Sum kids) m n = First n.kids _ _ _ (exprs_parts kids m (kids_in m n))
  expr_parts (Prod kids) m n = First n.kids _ _ _ (exprs_parts kids m (kids_in m n))

  pub exprs_parts : (es : Exprs) (m : Memory) (ns : List Node) → Parts (exprs_blocks es m ns) (exprs_lists es m ns) (exprs_texts es m ns)
  exprs_parts NoExprs m ns = None
  exprs_parts (And e rest) m [] = None
  exprs_parts (And e rest) m (n ∷ ns) = parts_both _ _ _ _ _ _ (expr_parts e m n) (exprs_parts rest m ns)

mutual
  pub stmt_parts : (s : Stmt) (m : Memory) (n : Node) → Parts (stmt_blocks s m n) (stmt_lists s m n) (stmt_texts s m n)
  stmt_parts (Let name e) m n = Second n.text.block _ _ _ (one_parts e m n (λ k. expr_parts e m k))
  stmt_parts (Show e) m n = one_parts e m n (λ k. expr_parts e m k)
  stmt_parts (tree.Block body) m n = First n.kids _ _ _ (stmts_parts body m (kids_in m n))

  pub stmts_parts : (ss : Stmts) (m : Memory) (ns : List Node) → Parts (stmts_blocks ss m ns) (stmts_lists ss m ns) (stmts_texts ss m ns)
  stmts_parts NoStmts m ns = None
  stmts_parts (Then s rest) m [] = None
  stmts_parts (Then s rest) m (n ∷ ns) = parts_both _ _ _ _ _ _ (stmt_parts s m n) (stmts_parts rest m ns)
