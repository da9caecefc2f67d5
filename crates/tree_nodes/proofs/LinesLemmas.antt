-- Nodes of statements.
use Rattle.std.proofs.lemmas.Bool.Decides.{nat_tests}
use Rattle.std.proofs.Common.{arith, ◌≡◌, ℕ, sym, subst, ◌∙◌, List, [], ◌∷◌}
use Rattle.arena_chunks.specs.Memory.{Memory}
use Rattle.arena_chunks.specs.Frame.{Frame, IsApart, ArePairwiseApart}
use Rattle.arena_chunks.specs.declared.allocator.text.Str.{Str}
use Rattle.arena_chunks.proofs.Layers.{frame_then}
use Rattle.arena_items.specs.Values.{IsTextIn, text_bytes}
use Rattle.arena_vec.specs.declared.vec.Vec.{Vec}
use Rattle.tree_rules.specs.Trees.{Expr, Let, Show, NoExprs, And, Stmts}
use Rattle.tree_rules.specs.Trees as tree
use Rattle.tree_nodes.specs.declared.node.Kind.TheVariants as kind
use Rattle.tree_nodes.specs.declared.node.Node.{Node}
use Rattle.tree_nodes.specs.TreesAt.{kids_of, kids_in, of_first, expr_blocks, IsBuilt}
use Rattle.tree_nodes.specs.StmtsAt.{IsStmtPlaced, AreBuilt}
use Rattle.tree_nodes.proofs.StayLemmas.{StayAll, stay_all, frame_behind}
use Rattle.tree_nodes.proofs.BuildLemmas.{only_one, only_blocks, HasKidsAlone, lean_as}

pub show_placed : (e : Expr) (old new : Memory) (v : Vec Node) (n : Node) → IsBuilt (And e NoExprs) old new v → n.kind ≡ kind.Show
    → kids_of n ≡ v → HasKidsAlone n → IsStmtPlaced (Show e) old new n
show_placed e old new v n built is kids rest = grind (arith, nat_tests, only_one, only_blocks, lean_as)

pub block_placed : (ss : Stmts) (old new : Memory) (v : Vec Node) (n : Node) → AreBuilt ss old new v → n.kind ≡ kind.Block → kids_of n ≡ v
    → HasKidsAlone n → IsStmtPlaced (tree.Block ss) old new n
block_placed ss old new v n built is kids rest = grind (arith, nat_tests, lean_as)

-- the name was placed first, and then the expression in a list
pub let_node_placed : (name : List ℕ) (e : Expr) (old one new : Memory) (text : Str) (v : Vec Node) (n : Node) → IsTextIn one text
    → text_bytes one text ≡ name
    → Frame old one [] (text.block ∷ []) → IsBuilt (And e NoExprs) one new v → n.kind ≡ kind.Let → n.text ≡ text → kids_of n ≡ v
    → n.number ≡ 0 → IsStmtPlaced (Let name e) old new n
let_node_placed name e old one new text v n held is frame built kind same kids rest =
    let b = subst (IsBuilt (And e NoExprs) one new) (sym kids) built in
    let ns = kids_in new n in
    let t = text.block in
    let news = n.kids ∷ of_first ns (λ k. expr_blocks e new k) in
    let apart : ArePairwiseApart news = subst (λ bs. ArePairwiseApart (n.kids ∷ bs)) (only_blocks e new ns) b.apart in
    let then : Frame one new [] news = subst (λ bs. Frame one new [] (n.kids ∷ bs)) (only_blocks e new ns) b.frame in
    let stay : StayAll one new news (t ∷ []) = stay_all one new [] news (t ∷ []) then (held, tt) (tt, tt) in
    record {
      stands = (kind, rw same stay.readable.0, rw same (sym stay.agree.0 ∙ is), b.held, only_one e new ns b.stand);
      apart = (subst (λ (s : Str). IsApart s.block.addr s.block.size news) (sym same) stay.apart.0, apart);
      frame = subst (λ (s : Str). Frame old new [] (s.block ∷ news)) (sym same)
          (frame_then old one new [] (t ∷ []) (t ∷ news) frame (frame_behind one new news (t ∷ []) then));
      lean = lean_as n kind rest b.lean;
    }
