-- Trees that are folded in place: expressions and statements alike.
use Rattle.std.specs.Prelude.{◌≡◌, ℕ, ◌+◌, ◌*◌, ◌^◌, ◌<◌, ◌≤◌, nat_lt, if◌then◌else◌, Bool, true, false, Option, Some, None, List, [], ◌∷◌, map, drop}
use Rattle.arena_chunks.specs.Memory.{Memory}
use Rattle.arena_chunks.specs.Frame.{Frame, AreAllApart, ArePairwiseApart}
use Rattle.arena_store.specs.declared.block.Block.{Block}
use Rattle.arena_vec.specs.Vecs.{IsVecIn, vec_list}
use Rattle.arena_vec.specs.declared.vec.Vec.{Vec}
use Rattle.tree_rules.specs.Trees.{Expr, Num, Name, Neg, Sum, Prod, Exprs, Let, Show, Stmts}
use Rattle.tree_rules.specs.Trees as tree
use Rattle.tree_rules.specs.Trees.{sum, product, folded, all_folded, folded_stmt, folded_stmts, folds_of, folds_of_stmt, fold_neg, fold_sum, fold_prod, numbers_of, one_if_neg, one_if_reckoned}
use Rattle.tree_nodes.specs.declared.node.Kind.{Kind}
use Rattle.tree_nodes.specs.declared.node.Kind.TheVariants as kind
use Rattle.tree_nodes.specs.declared.node.Node.{Node}
use Rattle.arena_tree.specs.TreesAt.{node_item, ExprAt}
use Rattle.arena_tree.specs.Folding.{IsWithin}
use Rattle.arena_tree.specs.Subtrees.{Subtree, OfExpr, OfStmt, SubtreeAt, lists_at, texts_at, below_it, RowAt, row_lists, row_texts, row_nodes}

-- ---- Trees that are folded

abbrev pub folded_it : Subtree → Subtree
folded_it (OfExpr e) = OfExpr (folded e)
folded_it (OfStmt s) = OfStmt (folded_stmt s)

abbrev pub folds_of_it : Subtree → ℕ
folds_of_it (OfExpr e) = folds_of e
folds_of_it (OfStmt s) = folds_of_stmt s

abbrev pub row_folds : List Subtree → ℕ
row_folds [] = 0
row_folds (t ∷ ts) = folds_of_it t + row_folds ts

-- ---- What folding requires

-- blocks of lists that share no byte with each other, and none with the texts
pub record IsClear (ls ts : List Block) : Type 0 where
  pub lists : ArePairwiseApart ls
  pub texts : AreAllApart ls ts

-- a tree on blocks of its own
pub record IsWhole (t : Subtree) (m : Memory) (n : Node) : Type 0 where
  pub stands : SubtreeAt t m n
  pub clear : IsClear (lists_at t m n) (texts_at t m n)

pub record IsRowWhole (ts : List Subtree) (m : Memory) (v : Vec Node) : Type 0 where
  pub stand : RowAt ts m (vec_list node_item m v)
  pub clear : IsClear (v.raw.block ∷ row_lists ts m (vec_list node_item m v)) (row_texts ts m (vec_list node_item m v))

pub record CanFold (m : Memory) (n : Node) (room : ℕ) : Type 0 where
  pub tree : Subtree
  pub whole : IsWhole tree m n
  pub low : below_it tree < room

pub record CanFoldRow (m : Memory) (v : Vec Node) (room : ℕ) : Type 0 where
  pub trees : List Subtree
  pub held : IsVecIn node_item m v
  pub whole : IsRowWhole trees m v
  pub low : row_nodes trees < room

-- ---- What it does

-- The node represents the tree, on these blocks of lists and of texts.
pub record StandsOn (t : Subtree) (m : Memory) (n : Node) (ls ts : List Block) : Type 0 where
  pub stands : SubtreeAt t m n
  pub lists : lists_at t m n ≡ ls
  pub texts : texts_at t m n ≡ ts

pub record StandOn (trees : List Subtree) (m : Memory) (ns : List Node) (ls ts : List Block) : Type 0 where
  pub stand : RowAt trees m ns
  pub lists : row_lists trees m ns ≡ ls
  pub texts : row_texts trees m ns ≡ ts

-- What is left of these lists and texts: they have only bytes of these.
pub record Shrinks (ls ts ls' ts' : List Block) : Type 0 where
  pub pairs : ArePairwiseApart ls → ArePairwiseApart ls'
  pub lists_in : IsWithin ls ls'
  pub texts_in : IsWithin ts ts'

-- only bytes of these blocks are written
pub record WritesIn (old new : Memory) (ls : List Block) : Type 0 where
  pub frame : Frame old new ls ls
  pub state : new.state ≡ old.state

-- A node of these lists and texts now represents this tree.
pub record Becomes (t : Subtree) (ls ts : List Block) (old new : Memory) (n : Node) : Type 0 where
  pub lists : List Block
  pub texts : List Block
  pub on : StandsOn t new n lists texts
  pub shrinks : Shrinks ls ts lists texts
  pub writes : WritesIn old new ls

-- A node represented a tree on these blocks, and this one represents it, folded.
pub record IsFolded (t : Subtree) (ls ts : List Block) (old new : Memory) (after : Node) (count : ℕ) : Type 0 where
  pub becomes : Becomes (folded_it t) ls ts old new after
  pub count_is : count ≡ folds_of_it t
  pub few : count ≤ 1 + below_it t

-- Nodes of a list in this block represented trees on these blocks, and these represent them, folded.
pub record AreFolded (trees : List Subtree) (ls ts : List Block) (v : Block) (old new : Memory) (nodes : List Node)
    (count : ℕ) : Type 0 where
  pub lists : List Block
  pub texts : List Block
  pub on : StandOn (map folded_it trees) new nodes lists texts
  pub shrinks : Shrinks ls ts lists texts
  pub writes : WritesIn old new (v ∷ ls)
  pub count_is : count ≡ row_folds trees
  pub few : count ≤ row_nodes trees

-- the nodes of a list from an index on
abbrev pub AreFoldedFrom : ℕ → List Subtree → Memory → Memory → Vec Node → ℕ → Type 0
AreFoldedFrom i trees old new v count =
    let ns = drop i (vec_list node_item old v) in
    AreFolded (drop i trees) (row_lists (drop i trees) old ns) (row_texts (drop i trees) old ns) v.raw.block old new
    (drop i (vec_list node_item new v)) count

-- for any trees in the list
pub record FoldsRow (old new : Memory) (v : Vec Node) (count : ℕ) : Type 0 where
  pub each : (trees : List Subtree) → IsRowWhole trees old v → AreFoldedFrom 0 trees old new v count

-- ---- One node, whose children are folded

-- the node with these functions applied to its children
abbrev pub with_kids : (Expr → Expr) → (Exprs → Exprs) → (Stmts → Stmts) → Subtree → Subtree
with_kids one all body (OfExpr (Num k)) = OfExpr (Num k)
with_kids one all body (OfExpr (Name bytes)) = OfExpr (Name bytes)
with_kids one all body (OfExpr (Neg e)) = OfExpr (Neg (one e))
with_kids one all body (OfExpr (Sum kids)) = OfExpr (Sum (all kids))
with_kids one all body (OfExpr (Prod kids)) = OfExpr (Prod (all kids))
with_kids one all body (OfStmt (Let name e)) = OfStmt (Let name (one e))
with_kids one all body (OfStmt (Show e)) = OfStmt (Show (one e))
with_kids one all body (OfStmt (tree.Block stmts)) = OfStmt (tree.Block (body stmts))

abbrev pub kids_folded : Subtree → Subtree
kids_folded = with_kids folded all_folded folded_stmts

-- what the rule for its kind makes of it, and how often the rule is applied
abbrev pub ruled : Subtree → Subtree
ruled (OfExpr (Num k)) = OfExpr (Num k)
ruled (OfExpr (Name bytes)) = OfExpr (Name bytes)
ruled (OfExpr (Neg e)) = OfExpr (fold_neg e)
ruled (OfExpr (Sum kids)) = OfExpr (fold_sum kids)
ruled (OfExpr (Prod kids)) = OfExpr (fold_prod kids)
ruled (OfStmt s) = OfStmt s

abbrev pub times_ruled : Subtree → ℕ
times_ruled (OfExpr (Num k)) = 0
times_ruled (OfExpr (Name bytes)) = 0
times_ruled (OfExpr (Neg e)) = one_if_neg e
times_ruled (OfExpr (Sum kids)) = one_if_reckoned sum (numbers_of kids)
times_ruled (OfExpr (Prod kids)) = one_if_reckoned product (numbers_of kids)
times_ruled (OfStmt s) = 0

-- This node represents a tree, and replaces that node, which represented another.
pub record Replaces (t u : Subtree) (m : Memory) (n after : Node) : Type 0 where
  pub stands : SubtreeAt u m after
  pub shrinks : Shrinks (lists_at t m n) (texts_at t m n) (lists_at u m after) (texts_at u m after)

-- the node that replaces it, or the one that stays; and how often the rule is then applied
abbrev pub or_stays : Option Node → Node → Node
or_stays None n = n
or_stays (Some after) n = after

abbrev pub once_if : Option Node → ℕ
once_if None = 0
once_if (Some after) = 1

abbrev pub IsRule : Memory → Node → Option Node → Type 0
IsRule m n found =
    (t : Subtree) → SubtreeAt t m n → Replaces t (ruled t) m n (or_stays found n) × (once_if found ≡ times_ruled t)

pub record IsSubtree (m : Memory) (n : Node) : Type 0 where
  pub tree : Subtree
  pub stands : SubtreeAt tree m n

pub record IsNegation (m : Memory) (n : Node) : Type 0 where
  pub kid : Expr
  pub stands : ExprAt (Neg kid) m n

-- ---- Totals

-- the sum or the product of numbers
abbrev pub total_of : Bool → List ℕ → ℕ
total_of false = sum
total_of true = product

-- the number, if it fits 64 bits
abbrev pub capped : ℕ → Option ℕ
capped n = if nat_lt n (2 ^ 64) then Some n else None

-- one number more in front
abbrev pub added : Bool → ℕ → ℕ → ℕ
added false n total = n + total
added true n total = n * total

-- the numbers of nodes that are all numbers
abbrev pub number_before : Option (List ℕ) → Kind → ℕ → Option (List ℕ)
number_before None k n = None
number_before (Some ns) kind.Num n = Some (n ∷ ns)
number_before (Some ns) k n = None

abbrev pub numbers_in : List Node → Option (List ℕ)
numbers_in [] = Some []
numbers_in (n ∷ ns) = number_before (numbers_in ns) n.kind n.number

-- their total, where it fits 64 bits
abbrev pub total_in : (List ℕ → ℕ) → Option (List ℕ) → Option ℕ
total_in total None = None
total_in total (Some ns) = capped (total ns)

-- the node of that number
abbrev pub IsTotalNode : Option ℕ → Option Node → Type 0
IsTotalNode found None = found ≡ None
IsTotalNode found (Some n) = (n.kind ≡ kind.Num) × (found ≡ Some n.number)

abbrev pub IsTail : Bool → Option (List ℕ) → Option ℕ → Type 0
IsTail product None found = ⊥
IsTail product (Some ns) found = found ≡ capped (total_of product ns)
