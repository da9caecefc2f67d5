-- Which nodes represent which statements, and the blocks that they name at every depth.
use Rattle.std.specs.Prelude.{◌≡◌, List, [], ◌∷◌, ◌++◌}
use Rattle.arena_chunks.specs.Memory.{Memory}
use Rattle.arena_chunks.specs.Frame.{Frame, ArePairwiseApart}
use Rattle.arena_store.specs.declared.block.Block.{Block}
use Rattle.arena_items.specs.Values.{IsTextIn, text_bytes}
use Rattle.arena_vec.specs.Vecs.{IsVecIn, vec_list}
use Rattle.arena_vec.specs.declared.vec.Vec.{Vec}
use Rattle.tree_rules.specs.Trees.{Stmt, Let, Show, Stmts, NoStmts, Then}
use Rattle.tree_rules.specs.Trees as tree
use Rattle.tree_nodes.specs.declared.node.Kind.TheVariants as kind
use Rattle.tree_nodes.specs.declared.node.Node.{Node}
use Rattle.tree_nodes.specs.TreesAt.{node_item, kids_of, kids_in, IsOnly, of_first, ExprAt, Which, OfBoth, with_list, with_text, expr_named, AreLean}

abbrev mutual
  pub StmtAt : Stmt → Memory → Node → Type 0
  StmtAt (Let name e) m n =
      (n.kind ≡ kind.Let) × IsTextIn m n.text × (text_bytes m n.text ≡ name) × IsVecIn node_item m (kids_of n)
      × IsOnly (kids_in m n) (λ k. ExprAt e m k)
  StmtAt (Show e) m n = (n.kind ≡ kind.Show) × IsVecIn node_item m (kids_of n) × IsOnly (kids_in m n) (λ k. ExprAt e m k)
  StmtAt (tree.Block body) m n = (n.kind ≡ kind.Block) × IsVecIn node_item m (kids_of n) × StmtsAt body m (kids_in m n)

  pub StmtsAt : Stmts → Memory → List Node → Type 0
  StmtsAt NoStmts m [] = Unit {0}
  StmtsAt NoStmts m (n ∷ ns) = ⊥
  StmtsAt (Then s rest) m [] = ⊥
  StmtsAt (Then s rest) m (n ∷ ns) = StmtAt s m n × StmtsAt rest m ns

abbrev mutual
  pub stmt_named : Which → Stmt → Memory → Node → List Block
  stmt_named w (Let name e) m n =
      with_text w n.text.block (with_list w n.kids (of_first (kids_in m n) (λ k. expr_named w e m k)))
  stmt_named w (Show e) m n = with_list w n.kids (of_first (kids_in m n) (λ k. expr_named w e m k))
  stmt_named w (tree.Block body) m n = with_list w n.kids (stmts_named w body m (kids_in m n))

  pub stmts_named : Which → Stmts → Memory → List Node → List Block
  stmts_named w NoStmts m ns = []
  stmts_named w (Then s rest) m [] = []
  stmts_named w (Then s rest) m (n ∷ ns) = stmt_named w s m n ++ stmts_named w rest m ns

abbrev pub stmt_blocks : Stmt → Memory → Node → List Block
stmt_blocks s m n = stmt_named OfBoth s m n

abbrev pub stmts_blocks : Stmts → Memory → List Node → List Block
stmts_blocks ss m ns = stmts_named OfBoth ss m ns

pub record IsStmtPlaced (s : Stmt) (old new : Memory) (n : Node) : Type 0 where
  pub stands : StmtAt s new n
  pub apart : ArePairwiseApart (stmt_blocks s new n)
  pub frame : Frame old new [] (stmt_blocks s new n)
  pub lean : AreLean new (n ∷ [])

pub record AreBuilt (ss : Stmts) (old new : Memory) (list : Vec Node) : Type 0 where
  pub held : IsVecIn node_item new list
  pub stand : StmtsAt ss new (vec_list node_item new list)
  pub apart : ArePairwiseApart (list.raw.block ∷ stmts_blocks ss new (vec_list node_item new list))
  pub frame : Frame old new [] (list.raw.block ∷ stmts_blocks ss new (vec_list node_item new list))
  pub lean : AreLean new (vec_list node_item new list)
