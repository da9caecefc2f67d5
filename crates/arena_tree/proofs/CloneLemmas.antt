-- Nodes that are copied.
use Rattle.std.proofs.lemmas.Bool.Decides.{nat_tests}
use Rattle.std.proofs.Common.{◌≡◌, ℕ, ◌<◌, ap, ◌∙◌, true, ◌⊎◌, inl, inr, [], ◌∷◌, length, arith}
use Rattle.arena_chunks.specs.Memory.{Memory}
use Rattle.arena_chunks.specs.Frame.{Frame}
use Rattle.arena_chunks.specs.declared.allocator.text.Str.{Str}
use Rattle.arena_items.specs.Values.{IsTextIn, text_bytes}
use Rattle.arena_vec.specs.Vecs.{vec_list}
use Rattle.arena_vec.specs.declared.vec.Vec.{Vec}
use Rattle.tree_rules.specs.Trees.{Num, Name, NoExprs, And, Let}
use Rattle.tree_nodes.specs.declared.node.Kind.{Kind}
use Rattle.tree_nodes.specs.declared.node.Kind.TheVariants as kind
use Rattle.tree_nodes.specs.declared.node.Node.{Node}
use Rattle.arena_tree.specs.NodeForms.{number_node}
use Rattle.arena_tree.specs.TreesAt.{node_item, kids_of, no_kids}
use Rattle.arena_tree.specs.Subtrees.{Subtree, OfExpr, OfStmt, SubtreeAt, RowAt, below_it, has_kids, HasRow, IsTreePlaced, IsRowBuilt}
use Rattle.tree_nodes.proofs.BuildLemmas.{HasKidsAlone, neg_placed, sum_placed, prod_placed, number_placed, name_placed}
use Rattle.tree_nodes.proofs.LinesLemmas.{show_placed, block_placed, let_node_placed}
use Rattle.tree_nodes.proofs.RowLemmas.{exprs_built, stmts_built}
use Rattle.tree_nodes.proofs.SubtreeLemmas.{kids_it, own_bytes, kids_at}
use Rattle.arena_tree.proofs.KidsLemmas.{branch}

pub more_kinds : (k : Kind) → (k ≡ kind.Num → ⊥) → (k ≡ kind.Name → ⊥) → has_kids k ≡ true
more_kinds k num name = grind (arith, nat_tests)

pub number_copied : (m : Memory) (source n : Node) (old : Memory) (t : Subtree) → SubtreeAt t m source → source.kind ≡ kind.Num
    → n ≡ number_node source.number → IsTreePlaced t old old n
number_copied m source n old (OfExpr (Num k)) at is number = number_placed old k n (number ∙ ap number_node at.1)
number_copied m source n old (OfStmt (Let name e)) at is number = cc
number_copied m source n old t at is number = cc

pub name_copied : (m : Memory) (source n : Node) (old new : Memory) (t : Subtree) (text : Str) → SubtreeAt t m source
    → source.kind ≡ kind.Name → IsTextIn new text → text_bytes new text ≡ text_bytes m source.text → Frame old new [] (text.block ∷ [])
    → n.kind ≡ kind.Name → n.text ≡ text → (n.number ≡ 0) × (kids_of n ≡ no_kids) → IsTreePlaced t old new n
name_copied m source n old new (OfExpr (Name bytes)) text at is held same frame named txt rest =
    name_placed old new bytes text n held (same ∙ at.2) frame named txt rest
name_copied m source n old new (OfStmt (Let name e)) text at is held same frame named txt rest = cc
name_copied m source n old new t text at is held same frame named txt rest = cc

pub let_copied : (m : Memory) (source n : Node) (old one new : Memory) (t : Subtree) (text : Str) (v : Vec Node) → SubtreeAt t m source
    → source.kind ≡ kind.Let → IsTextIn one text → text_bytes one text ≡ text_bytes m source.text → Frame old one [] (text.block ∷ [])
    → IsRowBuilt (kids_it t) one new v → n.kind ≡ kind.Let → n.text ≡ text → kids_of n ≡ v → n.number ≡ 0
    → IsTreePlaced t old new n
let_copied m source n old one new (OfStmt (Let name e)) text v at is held same frame built named txt kids rest =
    let_node_placed name e old one new text v n held (same ∙ at.2) frame (exprs_built (And e NoExprs) one new v built) named txt kids rest
let_copied m source n old one new (OfExpr (Num k)) text v at is held same frame built named txt kids rest = cc
let_copied m source n old one new t text v at is held same frame built named txt kids rest = cc

pub kids_copied : (m : Memory) (source n : Node) (old new : Memory) (t : Subtree) (v : Vec Node) → SubtreeAt t m source
    → (source.kind ≡ kind.Num → ⊥) → (source.kind ≡ kind.Name → ⊥) → (source.kind ≡ kind.Let → ⊥) → IsRowBuilt (kids_it t) old new v
    → n.kind ≡ source.kind → kids_of n ≡ v → HasKidsAlone n → IsTreePlaced t old new n
kids_copied m source n old new t v at num name lets built named kids rest =
    grind (arith, nat_tests, neg_placed, exprs_built, sum_placed, prod_placed, show_placed, block_placed, stmts_built)

-- a node's own text
pub text_of : (m : Memory) (n : Node) (t : Subtree) → SubtreeAt t m n → (n.kind ≡ kind.Name) ⊎ (n.kind ≡ kind.Let)
    → IsTextIn m n.text × (length (text_bytes m n.text) ≡ own_bytes t)
text_of m n (OfExpr (Name bytes)) at is = (at.1, ap length at.2)
text_of m n (OfStmt (Let name e)) at is = (at.1, ap length at.2)
text_of m n t at (inl is) = cc
text_of m n t at (inr is) = cc

-- the list of a node's children
module _ (m : Memory) (n : Node) (v : Vec Node) (more : has_kids n.kind ≡ true) (same : v ≡ kids_of n) (t : Subtree)
    (at : SubtreeAt t m n) where
  pub row_at : RowAt (kids_it t) m (vec_list node_item m v)
  row_at = rw same (kids_at t m n at more).stand

  pub has_row : (room : ℕ) → below_it t < room → HasRow m v room
  has_row room low = grind (arith, nat_tests, kids_it, kids_at, branch)
