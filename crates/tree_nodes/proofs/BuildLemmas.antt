-- Nodes over lists that are built.
use Rattle.std.proofs.lemmas.Bool.Decides.{nat_tests}
use Rattle.std.proofs.Common.{arith, ◌≡◌, ℕ, ap, sym, subst, List, [], ◌∷◌, append-nil}
use Rattle.arena_chunks.specs.Memory.{Memory}
use Rattle.arena_chunks.specs.Frame.{Frame, ArePairwiseApart}
use Rattle.arena_chunks.proofs.Layers.{frame_reflexive}
use Rattle.arena_items.specs.Values.{IsTextIn, text_bytes}
use Rattle.arena_chunks.specs.declared.allocator.text.Str.{Str}
use Rattle.arena_vec.specs.declared.vec.Vec.{Vec}
use Rattle.tree_rules.specs.Trees.{Expr, Num, Name, Neg, Sum, Prod, Exprs, NoExprs, And}
use Rattle.tree_nodes.specs.declared.node.Kind.{Kind}
use Rattle.tree_nodes.specs.declared.node.Kind.TheVariants as kind
use Rattle.tree_nodes.specs.declared.node.Node.{Node}
use Rattle.tree_nodes.specs.NodeForms.{number_node, no_text}
use Rattle.tree_nodes.proofs.LeanLemmas.{node_lean, leaf_lean, number_lean}
use Rattle.tree_nodes.specs.TreesAt.{kids_of, kids_in, no_kids, IsLeanFor, AreLean, IsOnly, of_first, ExprAt, ExprsAt, expr_blocks, exprs_blocks, IsPlaced, IsBuilt}

pub only_one : (e : Expr) (m : Memory) (ns : List Node) → ExprsAt (And e NoExprs) m ns → IsOnly ns (λ k. ExprAt e m k)
only_one e m ns at = grind (arith, nat_tests)

pub one_row : (e : Expr) (m : Memory) (ns : List Node) → IsOnly ns (λ k. ExprAt e m k) → ExprsAt (And e NoExprs) m ns
one_row e m ns at = grind (arith, nat_tests)

pub only_blocks : (e : Expr) (m : Memory) (ns : List Node) → exprs_blocks (And e NoExprs) m ns ≡ of_first ns (λ k. expr_blocks e m k)
only_blocks e m ns = grind (arith, nat_tests, append-nil)

-- a node that has children alone, and no number and no text
abbrev pub HasKidsAlone : Node → Type 0
HasKidsAlone n = (n.number ≡ 0) × (n.text ≡ no_text)

pub lean_as : {m : Memory} (n : Node) {k : Kind} → n.kind ≡ k → IsLeanFor k n → AreLean m (kids_in m n) → AreLean m (n ∷ [])
lean_as {m} n is own below = node_lean m n (subst (λ k. IsLeanFor k n) (sym is) own) below

pub neg_placed : (e : Expr) (old new : Memory) (v : Vec Node) (n : Node) → IsBuilt (And e NoExprs) old new v → n.kind ≡ kind.Neg
    → kids_of n ≡ v → HasKidsAlone n → IsPlaced (Neg e) old new n
neg_placed e old new v n built is kids rest =
    let b = subst (IsBuilt (And e NoExprs) old new) (sym kids) built in
    let ns = kids_in new n in
    record {
      stands = (is, b.held, only_one e new ns b.stand);
      apart = subst (λ bs. ArePairwiseApart (n.kids ∷ bs)) (only_blocks e new ns) b.apart;
      frame = subst (λ bs. Frame old new [] (n.kids ∷ bs)) (only_blocks e new ns) b.frame;
      lean = lean_as n is rest b.lean;
    }

pub prod_placed : (es : Exprs) (old new : Memory) (v : Vec Node) (n : Node) → IsBuilt es old new v → n.kind ≡ kind.Prod → kids_of n ≡ v
    → HasKidsAlone n → IsPlaced (Prod es) old new n
prod_placed es old new v n built is kids rest = grind (arith, nat_tests)

pub sum_placed : (es : Exprs) (old new : Memory) (v : Vec Node) (n : Node) → IsBuilt es old new v → n.kind ≡ kind.Sum → kids_of n ≡ v
    → HasKidsAlone n → IsPlaced (Sum es) old new n
sum_placed es old new v n built is kids rest = grind (arith, nat_tests)

pub number_placed : (m : Memory) (k : ℕ) (n : Node) → n ≡ number_node k → IsPlaced (Num k) m m n
number_placed m k n is = record {
  stands = (ap (λ (n : Node). n.kind) is, ap (λ (n : Node). n.number) is);
  apart = tt;
  frame = frame_reflexive m [];
  lean = number_lean m k n is;
}

pub name_placed : (old new : Memory) (bytes : List ℕ) (text : Str) (n : Node) → IsTextIn new text → text_bytes new text ≡ bytes
    → Frame old new [] (text.block ∷ [])
    → n.kind ≡ kind.Name → n.text ≡ text → (n.number ≡ 0) × (kids_of n ≡ no_kids) → IsPlaced (Name bytes) old new n
name_placed old new bytes text n held is frame kind same rest = grind (arith, nat_tests, leaf_lean)
