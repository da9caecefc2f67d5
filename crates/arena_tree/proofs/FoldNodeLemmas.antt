-- One node is folded: its children, and then itself by the rule for its kind.
use Rattle.std.proofs.lemmas.Bool.Decides.{nat_tests}
use Rattle.std.proofs.Common.{◌≡◌, ℕ, ◌+◌, ◌<◌, ◌≤◌, ap, sym, refl, subst, ◌∙◌, true, false, Option, Some, None, List, [], ◌∷◌, ◌++◌, arith}
use Rattle.arena_chunks.specs.Memory.{Memory}
use Rattle.arena_chunks.specs.Frame.{AreAllApart}
use Rattle.arena_store.specs.declared.block.Block.{Block}
use Rattle.arena_chunks.proofs.Layers.{all_from_both}
use Rattle.arena_kinds.proofs.Layers.{all_turned}
use Rattle.arena_items.specs.Footprint.{AreReadable}
use Rattle.arena_vec.specs.Vecs.{vec_list}
use Rattle.arena_vec.specs.declared.vec.Vec.{Vec}
use Rattle.tree_rules.specs.Trees.{Num, Name, Let, folded, all_folded, folded_stmts}
use Rattle.tree_nodes.specs.declared.node.Node.{Node}
use Rattle.arena_tree.specs.TreesAt.{node_item, kids_of, kids_in, AreLean}
use Rattle.arena_tree.specs.Subtrees.{Subtree, OfExpr, OfStmt, SubtreeAt, lists_at, texts_at, below_it, row_lists, has_kids}
use Rattle.arena_tree.specs.FoldingParts.{row_folds, IsWhole, IsRowWhole, CanFoldRow, StandOn, Becomes, IsFolded, FoldsRow, kids_folded, ruled, or_stays, once_if, IsRule}
use Rattle.arena_tree.proofs.FoldBlockLemmas.{shrinks_none, shrinks_then, shrinks_own, writes_none, agree_beside}
use Rattle.arena_tree.proofs.FoldRowLemmas.{held_still}
use Rattle.arena_tree.proofs.KidsLemmas.{branch, node_on}
use Rattle.tree_nodes.proofs.LeanLemmas.{node_lean, own_lean, below_lean}
use Rattle.tree_nodes.proofs.SubtreeLemmas.{kids_it, own_texts, kids_at, true_false}

-- ---- A node with no children

same_tree : (t : Subtree) (m : Memory) (n : Node) → SubtreeAt t m n → Becomes t (lists_at t m n) (texts_at t m n) m m n
same_tree t m n at = grind (arith, nat_tests, shrinks_none, writes_none)

pub leaf_folded : (t : Subtree) (m : Memory) (n : Node) → SubtreeAt t m n → has_kids n.kind ≡ false
    → IsFolded t (lists_at t m n) (texts_at t m n) m m n 0
leaf_folded (OfExpr (Num k)) m n at is = record { becomes = same_tree (OfExpr (Num k)) m n at; count_is = refl; few = omega arith }
leaf_folded (OfExpr (Name bytes)) m n at is =
    record { becomes = same_tree (OfExpr (Name bytes)) m n at; count_is = refl; few = omega arith }
leaf_folded (OfStmt (Let name e)) m n at is = absurd (true_false (sym (ap has_kids at.0) ∙ is))
leaf_folded t m n at is = absurd (true_false (sym (ap has_kids at.0) ∙ is))

-- ---- The children

own_readable : (t : Subtree) (m : Memory) (n : Node) → SubtreeAt t m n → AreReadable m.state (own_texts t n)
own_readable t m n at = grind (arith, nat_tests)

module _ {t : Subtree} {m : Memory} {n : Node} (whole : IsWhole t m n) (is : has_kids n.kind ≡ true) where
  -- the list of its children, and its own texts apart from it
  kids_whole : IsRowWhole (kids_it t) m (kids_of n) × AreAllApart (n.kids ∷ row_lists (kids_it t) m (kids_in m n)) (own_texts t n)
  kids_whole = grind (arith, nat_tests, kids_at, kids_it, all_from_both, own_texts)

  pub kids_can : (room : ℕ) → below_it t < room → CanFoldRow m (kids_of n) room
  kids_can room low = grind (arith, nat_tests, kids_it, kids_at, kids_whole, branch)

-- The node represents the tree with its children folded.
pub record KidsFolded (t : Subtree) (ls ts : List Block) (old new : Memory) (n : Node) (count : ℕ) : Type 0 where
  pub becomes : Becomes (kids_folded t) ls ts old new n
  pub count_is : count ≡ row_folds (kids_it t)
  pub few : count ≤ below_it t

pub kids_done : {t : Subtree} {old new : Memory} {n : Node} {v : Vec Node} {count : ℕ} → IsWhole t old n → has_kids n.kind ≡ true
    → v ≡ kids_of n → FoldsRow old new v count → KidsFolded t (lists_at t old n) (texts_at t old n) old new n count
kids_done {t} {old} {new} {n} {count = count} whole is same fold =
    let at = whole.stands in
    let k = kids_at t old n at is in
    let b = branch t in
    let own = own_texts t n in
    let f = (subst (λ w. FoldsRow old new w count) same fold).each (kids_it t) (kids_whole whole is).0 in
    let row : StandOn (kids_it (kids_folded t)) new (kids_in new n) f.lists f.texts = rw b.kids_are f.on in
    let apart = all_turned (n.kids ∷ row_lists (kids_it t) old (kids_in old n)) own (kids_whole whole is).1 in
    let texts = agree_beside own f.writes (own_readable t old n at) apart in
    let held = held_still old new (kids_of n) f.writes.state k.held in
    record {
      becomes = record {
        lists = n.kids ∷ f.lists;
        texts = own ++ f.texts;
        on = node_on folded all_folded folded_stmts old new n f.writes.state held t at is texts row;
        shrinks = rw (k.lists_are, k.texts_are) (shrinks_own n.kids own f.shrinks);
        writes = rw k.lists_are f.writes;
      };
      count_is = f.count_is;
      few = omega (arith, f.few, b.below_is);
    }

-- It holds nothing that its kind doesn't use, if it didn't before and its children don't.
pub kids_done_lean : {old new : Memory} {n : Node} {v : Vec Node} → v ≡ kids_of n
    → (AreLean old (vec_list node_item old v) → AreLean new (vec_list node_item new v)) → AreLean old (n ∷ []) → AreLean new (n ∷ [])
kids_done_lean {old} {new} {n} same fold lean = node_lean new n (own_lean old n lean)
    (subst (λ w. AreLean new (vec_list node_item new w)) same
    (fold (subst (λ w. AreLean old (vec_list node_item old w)) (sym same) (below_lean old n lean))))

-- ---- The rule

pub rule_done : {t : Subtree} {ls ts : List Block} {old new : Memory} {n : Node} {count total : ℕ} (found : Option Node)
    → KidsFolded t ls ts old new n count → IsRule new n found → total ≡ count + once_if found
    → IsFolded t ls ts old new (or_stays found n) total
rule_done {t} {ls} {ts} {old} {new} {n} found k rule sum =
    let u = kids_folded t in
    let b = branch t in
    let was = k.becomes in
    let r = rule u was.on.stands in
    let after = or_stays found n in
    record {
      becomes = rw b.folded_is (record {
        lists = lists_at (ruled u) new after;
        texts = texts_at (ruled u) new after;
        on = record { stands = r.0.stands; lists = refl; texts = refl };
        shrinks = shrinks_then was.shrinks (rw (was.on.lists, was.on.texts) at r.0.shrinks);
        writes = was.writes;
      });
      count_is = omega (arith, sum, k.count_is, r.1, b.folds_are);
      few = omega (arith, sum, k.few, once found);
    }
  where
    once : (found : Option Node) → once_if found ≤ 1
    once None = omega arith
    once (Some after) = omega arith
