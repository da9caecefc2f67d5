-- What a node represents, an expression or a statement, and lists of such nodes.
use Rattle.std.specs.Prelude.{◌≡◌, ℕ, ◌+◌, ◌<◌, Bool, true, false, List, [], ◌∷◌, ◌++◌}
use Rattle.arena_chunks.specs.Memory.{Memory}
use Rattle.arena_chunks.specs.Frame.{Frame, ArePairwiseApart}
use Rattle.arena_store.specs.declared.block.Block.{Block}
use Rattle.arena_vec.specs.Vecs.{IsVecIn, vec_list}
use Rattle.arena_vec.specs.declared.vec.Vec.{Vec}
use Rattle.tree_rules.specs.Trees.{Expr, Num, Name, Neg, Sum, Prod, Exprs, NoExprs, And, Stmt, Let, Show, Stmts, NoStmts, Then}
use Rattle.tree_rules.specs.Trees as tree
use Rattle.tree_nodes.specs.declared.node.Kind.{Kind}
use Rattle.tree_nodes.specs.declared.node.Kind.TheVariants as kind
use Rattle.tree_nodes.specs.declared.node.Node.{Node}
use Rattle.tree_nodes.specs.Counts.{below, below_stmt}
use Rattle.tree_nodes.specs.TreesAt.{node_item, ExprAt, expr_blocks, IsPlaced, AreLean}
use Rattle.tree_nodes.specs.StmtsAt.{StmtAt, stmt_blocks, IsStmtPlaced}
use Rattle.tree_nodes.specs.Lists.{expr_lists, expr_texts, stmt_lists, stmt_texts}

-- ---- What a node represents

pub data Subtree : Type 0 where
  OfExpr : (e : Expr) → Subtree
  OfStmt : (s : Stmt) → Subtree

abbrev pub SubtreeAt : Subtree → Memory → Node → Type 0
SubtreeAt (OfExpr e) m n = ExprAt e m n
SubtreeAt (OfStmt s) m n = StmtAt s m n

abbrev pub lists_at : Subtree → Memory → Node → List Block
lists_at (OfExpr e) m n = expr_lists e m n
lists_at (OfStmt s) m n = stmt_lists s m n

abbrev pub texts_at : Subtree → Memory → Node → List Block
texts_at (OfExpr e) m n = expr_texts e m n
texts_at (OfStmt s) m n = stmt_texts s m n

abbrev pub blocks_at : Subtree → Memory → Node → List Block
blocks_at (OfExpr e) m n = expr_blocks e m n
blocks_at (OfStmt s) m n = stmt_blocks s m n

abbrev pub below_it : Subtree → ℕ
below_it (OfExpr e) = below e
below_it (OfStmt s) = below_stmt s

-- ---- A list of nodes

abbrev pub expr_row : Exprs → List Subtree
expr_row NoExprs = []
expr_row (And e rest) = OfExpr e ∷ expr_row rest

abbrev pub stmt_row : Stmts → List Subtree
stmt_row NoStmts = []
stmt_row (Then s rest) = OfStmt s ∷ stmt_row rest

-- the children of a node
abbrev pub kids_it : Subtree → List Subtree
kids_it (OfExpr (Num k)) = []
kids_it (OfExpr (Name bytes)) = []
kids_it (OfExpr (Neg e)) = OfExpr e ∷ []
kids_it (OfExpr (Sum kids)) = expr_row kids
kids_it (OfExpr (Prod kids)) = expr_row kids
kids_it (OfStmt (Let name e)) = OfExpr e ∷ []
kids_it (OfStmt (Show e)) = OfExpr e ∷ []
kids_it (OfStmt (tree.Block body)) = stmt_row body

abbrev pub RowAt : List Subtree → Memory → List Node → Type 0
RowAt [] m [] = Unit {0}
RowAt [] m (n ∷ ns) = ⊥
RowAt (t ∷ ts) m [] = ⊥
RowAt (t ∷ ts) m (n ∷ ns) = SubtreeAt t m n × RowAt ts m ns

abbrev pub row_lists : List Subtree → Memory → List Node → List Block
row_lists [] m ns = []
row_lists (t ∷ ts) m [] = []
row_lists (t ∷ ts) m (n ∷ ns) = lists_at t m n ++ row_lists ts m ns

abbrev pub row_texts : List Subtree → Memory → List Node → List Block
row_texts [] m ns = []
row_texts (t ∷ ts) m [] = []
row_texts (t ∷ ts) m (n ∷ ns) = texts_at t m n ++ row_texts ts m ns

abbrev pub row_blocks : List Subtree → Memory → List Node → List Block
row_blocks [] m ns = []
row_blocks (t ∷ ts) m [] = []
row_blocks (t ∷ ts) m (n ∷ ns) = blocks_at t m n ++ row_blocks ts m ns

abbrev pub row_nodes : List Subtree → ℕ
row_nodes [] = 0
row_nodes (t ∷ ts) = 1 + below_it t + row_nodes ts

-- ---- Walks

abbrev pub has_kids : Kind → Bool
has_kids kind.Num = false
has_kids kind.Name = false
has_kids k = true

-- The node represents a tree with fewer nodes below it than this.
pub record HasTree (m : Memory) (n : Node) (room : ℕ) : Type 0 where
  pub tree : Subtree
  pub stands : SubtreeAt tree m n
  pub low : below_it tree < room

pub record HasRow (m : Memory) (v : Vec Node) (room : ℕ) : Type 0 where
  pub trees : List Subtree
  pub held : IsVecIn node_item m v
  pub stand : RowAt trees m (vec_list node_item m v)
  pub low : row_nodes trees < room

-- ---- Trees that calls place

abbrev pub IsTreePlaced : Subtree → Memory → Memory → Node → Type 0
IsTreePlaced (OfExpr e) old new n = IsPlaced e old new n
IsTreePlaced (OfStmt s) old new n = IsStmtPlaced s old new n

pub record IsRowBuilt (ts : List Subtree) (old new : Memory) (v : Vec Node) : Type 0 where
  pub held : IsVecIn node_item new v
  pub stand : RowAt ts new (vec_list node_item new v)
  pub apart : ArePairwiseApart (v.raw.block ∷ row_blocks ts new (vec_list node_item new v))
  pub frame : Frame old new [] (v.raw.block ∷ row_blocks ts new (vec_list node_item new v))
  pub lean : AreLean new (vec_list node_item new v)

-- Trees that were placed one after another, in an arena that was this one before, and whose nodes are in no list yet.
pub record AreGathered (ts : List Subtree) (old new : Memory) (ns : List Node) : Type 0 where
  pub stand : RowAt ts new ns
  pub apart : ArePairwiseApart (row_blocks ts new ns)
  pub frame : Frame old new [] (row_blocks ts new ns)
  pub lean : AreLean new ns

-- The nodes of the first of them are in a list, and those of the others aren't yet.
pub record IsRowRead (ts : List Subtree) (old new : Memory) (v : Vec Node) (ns : List Node) : Type 0 where
  pub front : List Subtree
  pub back : List Subtree
  pub all : ts ≡ front ++ back
  pub between : Memory
  pub built : IsRowBuilt front old between v
  pub gathered : AreGathered back between new ns
