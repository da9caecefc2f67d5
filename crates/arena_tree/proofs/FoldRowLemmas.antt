-- Lists of trees that are folded in place one after another, from the last one on.
use Rattle.std.proofs.lemmas.Bool.Decides.{nat_tests}
use Rattle.std.proofs.Common.{◌≡◌, ℕ, suc, zero, ◌+◌, ◌-◌, ◌<◌, ◌≤◌, ap, sym, refl, subst, ◌∙◌, Some, List, [], ◌∷◌, ◌++◌, length, take, drop, add-one, arith}
use Rattle.std.specs.Prelude.{slice_get, slice_set}
use Rattle.std.proofs.lemmas.List.{length-set, take-set, take-take, drop-set, drop_all}
use Rattle.std.proofs.lemmas.Option.{slice_get_within}
use Rattle.arena_chunks.specs.Memory.{Memory}
use Rattle.arena_chunks.specs.Source.{View}
use Rattle.arena_store.specs.declared.block.Block.{Block}
use Rattle.arena_chunks.proofs.Layers.{apart_each}
use Rattle.arena_vec.specs.Changes.{Becomes as VecBecomes}
use Rattle.arena_vec.specs.Vecs.{IsVecIn, vec_list}
use Rattle.arena_vec.specs.declared.vec.Vec.{Vec}
use Rattle.tree_nodes.specs.declared.node.Node.{Node}
use Rattle.arena_tree.specs.TreesAt.{node_item, AreLean}
use Rattle.arena_tree.specs.TreeLaws.{list_same, list_held}
use Rattle.arena_tree.specs.Subtrees.{Subtree, SubtreeAt, lists_at, texts_at, below_it, RowAt, row_lists, row_texts, row_nodes}
use Rattle.arena_tree.specs.FoldingParts.{IsClear, IsWhole, IsRowWhole, CanFold, StandsOn, WritesIn, IsFolded, AreFolded, AreFoldedFrom}
use Rattle.tree_nodes.proofs.SubtreeLemmas.{row_length}
use Rattle.tree_nodes.proofs.WalkLemmas.{some_node, none_node, list_len}
use Rattle.arena_tree.proofs.FoldBlockLemmas.{Split, split_of, shrinks_none, shrinks_both, beside, writes_none, writes_more, writes_then, agree_beside}
use Rattle.arena_tree.proofs.KeptLemmas.{row_both, on_beside, row_on_beside, on_lean_beside, row_on_lean_beside}
use Rattle.tree_nodes.proofs.LeanLemmas.{lean_both, lean_first, lean_behind}

pub held_still : (old new : Memory) (v : Vec Node) → new.state ≡ old.state → IsVecIn node_item old v → IsVecIn node_item new v
held_still old new v same held = list_held old new v held (rw same held.place.readable)

-- The others are folded, then the first, whose node is replaced.
first_folded : {t : Subtree} {trees : List Subtree} {v : Block} {b bt q qt : List Block} {old mid two new : Memory} {l : Node}
    {nodes : List Node} {count once : ℕ} → Split v b q bt qt → AreFolded trees q qt v old mid nodes count → IsFolded t b bt mid two l once
    → WritesIn two new (v ∷ []) → AreFolded (t ∷ trees) (b ++ q) (bt ++ qt) v old new (l ∷ nodes) (count + once)
first_folded {v = v} {b = b} {q = q} s f g set =
    let first = g.becomes in
    let all = v ∷ (b ++ q) in
    let w = writes_then (writes_more (v ∷ b) (λ addr n h. h.1) first.writes) (writes_more (v ∷ b) (λ addr n h. (h.0, tt)) set) in
    let own = beside first.shrinks (v ∷ q) s.beside_first in
    let one = on_beside set first.on ((own.0.0, tt), (own.1.0, tt)) in
    let rest = row_on_beside w f.on (beside f.shrinks (v ∷ b) s.beside_others) in
    record {
      lists = first.lists ++ f.lists;
      texts = first.texts ++ f.texts;
      on = row_both one rest;
      shrinks = shrinks_both first.shrinks f.shrinks;
      writes = writes_then (writes_more all (λ addr n h. (h.0, (apart_each addr n b q h.1).1)) f.writes)
          (writes_more all (λ addr n h. (h.0, (apart_each addr n b q h.1).0)) w);
      count_is = omega (arith, f.count_is, g.count_is);
      few = omega (arith, f.few, g.few);
    }

-- If the first one holds nothing that its kind doesn't use, and neither do the others, then none of them does.
first_lean : {t : Subtree} {trees : List Subtree} {v : Block} {b bt q qt : List Block} {old mid two new : Memory} {l : Node}
    {nodes : List Node} {count once : ℕ} → Split v b q bt qt → AreFolded trees q qt v old mid nodes count → IsFolded t b bt mid two l once
    → WritesIn two new (v ∷ []) → AreLean two (l ∷ []) → AreLean mid nodes → AreLean new (l ∷ nodes)
first_lean {v = v} {b = b} {q = q} {new = new} {l = l} {nodes = nodes} s f g set one rest =
    let first = g.becomes in
    let w = writes_then (writes_more (v ∷ b) (λ addr n h. h.1) first.writes) (writes_more (v ∷ b) (λ addr n h. (h.0, tt)) set) in
    let own = beside first.shrinks (v ∷ q) s.beside_first in
    lean_both new (l ∷ []) nodes (on_lean_beside set first.on ((own.0.0, tt), (own.1.0, tt)) one)
    (row_on_lean_beside w f.on (beside f.shrinks (v ∷ b) s.beside_others) rest)

-- ---- A tree among others

pub record Place (trees : List Subtree) (m : Memory) (ns : List Node) (v : Block) (i : ℕ) (k : Node) : Type 0 where
  pub tree : Subtree
  pub stands : SubtreeAt tree m k
  pub tree_is : drop i trees ≡ tree ∷ drop (suc i) trees
  pub node_is : drop i ns ≡ k ∷ drop (suc i) ns
  pub split : Split v (lists_at tree m k) (row_lists (drop (suc i) trees) m (drop (suc i) ns)) (texts_at tree m k)
      (row_texts (drop (suc i) trees) m (drop (suc i) ns))
  pub low : 1 + below_it tree + row_nodes (drop (suc i) trees) ≤ row_nodes trees

place_of : (trees : List Subtree) (m : Memory) (ns : List Node) (v : Block) (i : ℕ) (k : Node) → RowAt trees m ns
    → IsClear (v ∷ row_lists trees m ns) (row_texts trees m ns) → slice_get ns i ≡ Some k → Place trees m ns v i k
place_of [] m [] v i k at clear is = absurd (none_node k is)
place_of (t ∷ ts) m (n ∷ ns) v zero k at clear is = subst (Place (t ∷ ts) m (n ∷ ns) v 0) (some_node n k is) (record {
  tree = t;
  stands = at.0;
  tree_is = refl;
  node_is = refl;
  split = split_of v (lists_at t m n) _ (texts_at t m n) _ clear;
  low = omega arith;
})
place_of (t ∷ ts) m (n ∷ ns) v (suc i) k at clear is =
    let r = place_of ts m ns v i k at.1 (split_of v (lists_at t m n) _ (texts_at t m n) _ clear).others is in
    record { tree = r.tree; stands = r.stands; tree_is = r.tree_is; node_is = r.node_is; split = r.split; low = omega (arith, r.low) }
place_of trees m ns v i k at clear is = absurd at

-- ---- The loop

-- The nodes of a list from an index on are folded, and those before are unchanged.
pub record Left (trees : List Subtree) (old m : Memory) (v : Vec Node) (i count : ℕ) : Type 0 where
  pub whole : IsRowWhole trees old v
  pub front : take i (vec_list node_item m v) ≡ take i (vec_list node_item old v)
  pub row : AreFoldedFrom i trees old m v count
  pub lean : AreLean old (vec_list node_item old v) → AreLean m (drop i (vec_list node_item m v))

pub row_begins : {trees : List Subtree} {m : Memory} {v : Vec Node} (i : ℕ) → IsRowWhole trees m v → v.raw.len ≤ i
    → Left trees m m v i 0
row_begins {trees} {m} {v} i whole end =
    let ns = vec_list node_item m v in
    let past : length ns ≤ i = omega (arith, end, list_len m v) in
    let all : length trees ≤ i = omega (arith, past, row_length trees m ns whole.stand) in
    record {
      whole = whole;
      front = refl;
      row = rw (drop_all i trees all, drop_all i ns past) (record {
        lists = [];
        texts = [];
        on = record { stand = tt; lists = refl; texts = refl };
        shrinks = shrinks_none [] [];
        writes = writes_none m (v.raw.block ∷ []);
        count_is = refl;
        few = omega arith;
      });
      lean = λ lean. lean_behind m i ns lean;
    }

-- the next tree
pub record Turn (trees : List Subtree) (old m : Memory) (v : Vec Node) (i count : ℕ) (k : Node) : Type 0 where
  pub left : Left trees old m v (suc i) count
  pub get : slice_get (vec_list node_item m v) i ≡ Some k
  pub place : Place trees old (vec_list node_item old v) v.raw.block i k
  pub on : StandsOn place.tree m k (lists_at place.tree old k) (texts_at place.tree old k)

pub turn_of : {trees : List Subtree} {old m : Memory} {v : Vec Node} {i count : ℕ} {k : Node} (j : ℕ) → i ≡ suc j
    → Left trees old m v i count → slice_get (vec_list node_item m v) j ≡ Some k → Turn trees old m v j count k
turn_of {trees} {old} {m} {v} {k = k} j is now get =
    let left = rw is at now in
    let ns = vec_list node_item old v in
    let ms = vec_list node_item m v in
    let was : slice_get ns j ≡ Some k
    = sym (front_get j ns) ∙ ap (λ (l : List Node). slice_get l j) (sym left.front) ∙ front_get j ms ∙ get in
    let place = place_of trees old ns v.raw.block j k left.whole.stand left.whole.clear was in
    record {
      left = left;
      get = get;
      place = place;
      on = on_beside {t = place.tree} left.row.writes (record { stands = place.stands; lists = refl; texts = refl }) place.split.beside_first;
    }
  where
    front_get : (i : ℕ) (ns : List Node) → slice_get (take (suc i) ns) i ≡ slice_get ns i
    front_get zero [] = refl
    front_get (suc i) [] = refl
    front_get zero (n ∷ ns) = refl
    front_get (suc i) (n ∷ ns) = front_get i ns

pub turn_whole : {trees : List Subtree} {old m : Memory} {v : Vec Node} {i count : ℕ} {k : Node} (t : Turn trees old m v i count k)
    → IsWhole t.place.tree m k
turn_whole t = record { stands = t.on.stands; clear = rw (t.on.lists, t.on.texts) t.place.split.first }

pub turn_can : {trees : List Subtree} {old m : Memory} {v : Vec Node} {i count room : ℕ} {k : Node} (t : Turn trees old m v i count k)
    → row_nodes trees < room → CanFold m k (room - 1)
turn_can t low = record { tree = t.place.tree; whole = turn_whole t; low = omega (arith, t.place.low, low) }

pub row_next : {trees : List Subtree} {old m two new : Memory} {v : Vec Node} {i count once : ℕ} {k l : Node}
    (t : Turn trees old m v i count k) → IsVecIn node_item m v
    → IsFolded t.place.tree (lists_at t.place.tree m k) (texts_at t.place.tree m k) m two l once
    → (AreLean m (k ∷ []) → AreLean two (l ∷ []))
    → WritesIn two new (v.raw.block ∷ []) → vec_list node_item new v ≡ slice_set (vec_list node_item two v) i l
    → Left trees old new v i (count + once)
row_next {trees} {old} {m} {two} {new} {v} {i = i} {k = k} {l = l} t held f step set set_is =
    let p = t.place in
    let ns = vec_list node_item old v in
    let ms = vec_list node_item m v in
    let g = rw (t.on.lists, t.on.texts) at f in
    let same : vec_list node_item two v ≡ ms
    = list_same m two v (agree_beside (v.raw.block ∷ []) g.becomes.writes (held.place.readable, tt) (p.split.beside_first.0.0, tt)).0 in
    let is : vec_list node_item new v ≡ slice_set ms i l = set_is ∙ ap (λ (l' : List Node). slice_set l' i l) same in
    let rest : drop i (vec_list node_item new v) ≡ l ∷ drop (suc i) ms
    = ap (drop i) is ∙ (rw add-one at (drop-set ms i l (slice_get_within ms i k t.get))) in
    let upto : (xs : List Node) → take i (take (suc i) xs) ≡ take i xs = λ xs. take-take i (suc i) xs (omega arith) in
    record {
      whole = t.left.whole;
      front = ap (take i) is ∙ take-set ms i l ∙ sym (upto ms) ∙ ap (take i) t.left.front ∙ upto ns;
      row = rw (p.tree_is, p.node_is, rest) (first_folded p.split t.left.row g set);
      lean = λ lean.
          let was = lean_first old k (drop (suc i) ns) (subst (AreLean old) p.node_is (lean_behind old i ns lean)) in
          let now = on_lean_beside {t = p.tree} t.left.row.writes (record { stands = p.stands; lists = refl; texts = refl }) p.split.beside_first was in
          subst (AreLean new) (sym rest) (first_lean p.split t.left.row g set (step now) (t.left.lean lean));
    }

-- One node of a list was set: the handle stays.
pub set_list : {old new : View} {v w : Vec Node} (i : ℕ) (l : Node)
    → VecBecomes node_item old new v (slice_set (vec_list node_item old.memory v) i l) w
    → vec_list node_item new.memory v ≡ slice_set (vec_list node_item old.memory v) i l
set_list {old} {v = x1} {w = x2} i l b = grind (arith, nat_tests, length-set, list_len)
