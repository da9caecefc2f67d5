-- What nodes are, by their kinds.
use Rattle.std.proofs.lemmas.Bool.Decides.{nat_tests}
use Rattle.std.proofs.Common.{◌≡◌, ◌<◌, ap, sym, refl, subst, ◌∙◌, Some, List, length, arith}
use Rattle.std.specs.Prelude.{slice_get}
pub use Rattle.std.proofs.lemmas.Option.{same_Some as some_node, none-some as none_node}
use Rattle.arena_chunks.specs.Memory.{Memory}
use Rattle.arena_items.specs.Values.{IsTextIn, text_bytes, bytes_of}
use Rattle.arena_items.proofs.Layers.{length-elements}
use Rattle.arena_vec.specs.Vecs.{IsVecIn, vec_list}
use Rattle.arena_vec.specs.declared.vec.Vec.{Vec}
use Rattle.tree_rules.specs.Trees.{Expr, Num, Name, Neg, Sum, Prod, Exprs, Stmt, Let, Show, Stmts}
use Rattle.tree_rules.specs.Trees as tree
use Rattle.tree_nodes.specs.declared.node.Kind.{Kind}
use Rattle.tree_nodes.specs.declared.node.Kind.TheVariants as kind
use Rattle.tree_nodes.specs.declared.node.Node.{Node}
use Rattle.tree_nodes.specs.TreesAt.{node_item, kids_of, kids_in, IsOnly, ExprAt, ExprsAt}
use Rattle.tree_nodes.specs.StmtsAt.{StmtAt, StmtsAt}

-- ---- Lists of one node

pub list_len : (m : Memory) (v : Vec Node) → length (vec_list node_item m v) ≡ v.raw.len
list_len m v = length-elements 88 node_item.decoded v.raw.len (bytes_of m v.raw.block)

pub only_some : (ns : List Node) (P : Node → Type 0) → IsOnly ns P → length ns ≡ 1
only_some ns P only = grind (arith, nat_tests)

-- the handle of a node with one child
pub first_held : (m : Memory) (n : Node) (v : Vec Node) → v ≡ kids_of n → IsVecIn node_item m (kids_of n) → n.len ≡ 1
    → IsVecIn node_item m v × (0 < v.raw.len)
first_held m n v same held one = grind (arith, nat_tests)

pub first_in : (m : Memory) (n : Node) (v : Vec Node) (k : Node) → v ≡ kids_of n → slice_get (vec_list node_item m v) 0 ≡ Some k
    → slice_get (kids_in m n) 0 ≡ Some k
first_in m n v k same is = rw same at is

-- ---- Expressions

abbrev IsView : Memory → Node → Kind → Expr → Type 0
IsView m n kind.Num e = e ≡ Num n.number
IsView m n kind.Name e = IsTextIn m n.text × (e ≡ Name (text_bytes m n.text))
IsView m n kind.Neg e = IsVecIn node_item m (kids_of n) × (f : Expr) × (e ≡ Neg f) × IsOnly (kids_in m n) (λ k. ExprAt f m k)
IsView m n kind.Sum e = IsVecIn node_item m (kids_of n) × (es : Exprs) × (e ≡ Sum es) × ExprsAt es m (kids_in m n)
IsView m n kind.Prod e = IsVecIn node_item m (kids_of n) × (es : Exprs) × (e ≡ Prod es) × ExprsAt es m (kids_in m n)
IsView m n k e = ⊥

pub seen : (k : Kind) (m : Memory) (n : Node) → n.kind ≡ k → (e : Expr) → ExprAt e m n → IsView m n k e
seen k m n is (Num j) at = subst (λ k'. IsView m n k' (Num j)) (sym at.0 ∙ is) (ap Num (sym at.1))
seen k m n is (Name bytes) at = subst (λ k'. IsView m n k' (Name bytes)) (sym at.0 ∙ is) (at.1, ap Name (sym at.2))
seen k m n is (Neg e) at = subst (λ k'. IsView m n k' (Neg e)) (sym at.0 ∙ is) (at.1, e, refl, at.2)
seen k m n is (Sum kids) at = subst (λ k'. IsView m n k' (Sum kids)) (sym at.0 ∙ is) (at.1, kids, refl, at.2)
seen k m n is (Prod kids) at = subst (λ k'. IsView m n k' (Prod kids)) (sym at.0 ∙ is) (at.1, kids, refl, at.2)

-- ---- Statements

abbrev IsLineView : Memory → Node → Kind → Stmt → Type 0
IsLineView m n kind.Let s =
    IsVecIn node_item m (kids_of n) × IsTextIn m n.text × (e : Expr) × (s ≡ Let (text_bytes m n.text) e)
    × IsOnly (kids_in m n) (λ k. ExprAt e m k)
IsLineView m n kind.Show s = IsVecIn node_item m (kids_of n) × (e : Expr) × (s ≡ Show e) × IsOnly (kids_in m n) (λ k. ExprAt e m k)
IsLineView m n kind.Block s = IsVecIn node_item m (kids_of n) × (ss : Stmts) × (s ≡ tree.Block ss) × StmtsAt ss m (kids_in m n)
IsLineView m n k s = ⊥

pub line_seen : (k : Kind) (m : Memory) (n : Node) → n.kind ≡ k → (s : Stmt) → StmtAt s m n → IsLineView m n k s
line_seen k m n is (Let name e) at =
    subst (λ k'. IsLineView m n k' (Let name e)) (sym at.0 ∙ is) (at.3, at.1, e, ap (λ bytes. Let bytes e) (sym at.2), at.4)
line_seen k m n is (Show e) at = subst (λ k'. IsLineView m n k' (Show e)) (sym at.0 ∙ is) (at.1, e, refl, at.2)
line_seen k m n is (tree.Block body) at =
    subst (λ k'. IsLineView m n k' (tree.Block body)) (sym at.0 ∙ is) (at.1, body, refl, at.2)
