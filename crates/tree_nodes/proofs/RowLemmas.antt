-- Lists of nodes that are built, one tree after another.
use Rattle.std.proofs.lemmas.Bool.Decides.{nat_tests}
use Rattle.std.proofs.Common.{◌≡◌, ℕ, suc, zero, ◌+◌, ◌-◌, ◌<◌, ◌≤◌, ap, sym, refl, subst, ◌∙◌, Some, List, [], ◌∷◌, ◌++◌, append_assoc, take, drop, length, length-append, arith, append-nil}
use Rattle.std.specs.Prelude.{slice_get}
use Rattle.arena_chunks.specs.Memory.{Memory}
use Rattle.arena_chunks.specs.Frame.{Frame, ArePairwiseApart}
use Rattle.arena_store.specs.declared.block.Block.{Block}
use Rattle.arena_chunks.proofs.Layers.{all_apart, apart_both, pairwise_both, all_from_both, frame_then, frame_beside, frame_reflexive, frame_forget, empty_after}
use Rattle.arena_items.specs.Footprint.{AreReadable, Agree}
use Rattle.arena_vec.specs.Vecs.{IsVecIn, vec_list}
use Rattle.arena_vec.specs.declared.vec.Vec.{Vec}
use Rattle.tree_rules.specs.Trees.{Expr, Exprs, NoExprs, And, with_expr, Stmt, Stmts, NoStmts, Then, with_stmt}
use Rattle.tree_nodes.specs.declared.node.Node.{Node}
use Rattle.tree_nodes.specs.TreesAt.{node_item, AreLean, IsBuilt}
use Rattle.tree_nodes.specs.StmtsAt.{AreBuilt}
use Rattle.arena_kinds.specs.laws.KindLaws.{readable_both, readable_each, agree_each}
use Rattle.tree_nodes.specs.laws.TreeLaws.{list_same, expr_readable, expr_names, expr_again}
use Rattle.tree_nodes.specs.laws.StmtLaws.{stmt_readable, stmt_names, stmt_again}
use Rattle.tree_nodes.specs.Subtrees.{Subtree, OfExpr, OfStmt, SubtreeAt, blocks_at, below_it, row_nodes, HasTree, expr_row, stmt_row, RowAt, row_blocks, IsTreePlaced, IsRowBuilt, AreGathered, IsRowRead}
use Rattle.tree_nodes.proofs.StayLemmas.{stay_all, all_none, turned_one, frame_behind}
use Rattle.tree_nodes.proofs.LeanLemmas.{lean_none, lean_both, expr_blocks_are, stmt_blocks_are, row_stays_lean}
use Rattle.tree_nodes.proofs.WalkLemmas.{some_node, none_node, list_len}
use Rattle.tree_nodes.proofs.SubtreeLemmas.{row_exprs_at, row_stmts_at, row_length}
use Rattle.std.proofs.lemmas.List.{take_all}

-- ---- The same bytes in all blocks: the same trees on the same blocks

it_readable : (t : Subtree) (m : Memory) (n : Node) → SubtreeAt t m n → AreReadable m.state (blocks_at t m n)
it_readable (OfExpr e) m n at = expr_readable e m n at
it_readable (OfStmt s) m n at = stmt_readable s m n at

row_readable : (ts : List Subtree) (m : Memory) (ns : List Node) → RowAt ts m ns → AreReadable m.state (row_blocks ts m ns)
row_readable (t ∷ ts) m (n ∷ ns) at =
    readable_both m (blocks_at t m n) (row_blocks ts m ns) (it_readable t m n at.0) (row_readable ts m ns at.1)
row_readable [] m ns at = tt
row_readable (t ∷ ts) m [] at = absurd at

it_stays : (t : Subtree) (a c : Memory) (n : Node) → SubtreeAt t a n → Agree a c (blocks_at t a n) → AreReadable c.state (blocks_at t a n)
    → SubtreeAt t c n × (blocks_at t c n ≡ blocks_at t a n)
it_stays (OfExpr e) a c n at same reads = (expr_again e a c n at same reads, expr_names e a c n same)
it_stays (OfStmt s) a c n at same reads = (stmt_again s a c n at same reads, stmt_names s a c n same)

row_stays : (ts : List Subtree) (a c : Memory) (ns : List Node) → RowAt ts a ns → Agree a c (row_blocks ts a ns)
    → AreReadable c.state (row_blocks ts a ns) → RowAt ts c ns × (row_blocks ts c ns ≡ row_blocks ts a ns)
row_stays (t ∷ ts) a c (n ∷ ns) at same reads =
    let agree = agree_each a c (blocks_at t a n) (row_blocks ts a ns) same in
    let read = readable_each c (blocks_at t a n) (row_blocks ts a ns) reads in
    let one = it_stays t a c n at.0 agree.0 read.0 in
    let rest = row_stays ts a c ns at.1 agree.1 read.1 in
    ((one.0, rest.0), λ i. one.1 i ++ rest.1 i)
row_stays [] a c [] at same reads = (tt, refl)
row_stays ts a c ns at same reads = absurd at

-- ---- Trees, and others behind them

rows_both : (ts us : List Subtree) (m : Memory) (ns ks : List Node) → RowAt ts m ns → RowAt us m ks
    → RowAt (ts ++ us) m (ns ++ ks) × (row_blocks (ts ++ us) m (ns ++ ks) ≡ row_blocks ts m ns ++ row_blocks us m ks)
rows_both [] us m [] ks at others = (others, refl)
rows_both (t ∷ ts) us m (n ∷ ns) ks at others =
    let both = rows_both ts us m ns ks at.1 others in (
      (at.0, both.0),
      ap (λ bs. blocks_at t m n ++ bs) both.1 ∙ sym (append_assoc (blocks_at t m n) (row_blocks ts m ns) (row_blocks us m ks)),
    )
rows_both ts us m ns ks at others = absurd at

tree_placed : (t : Subtree) (old new : Memory) (n : Node) → IsTreePlaced t old new n
    → SubtreeAt t new n × ArePairwiseApart (blocks_at t new n) × Frame old new [] (blocks_at t new n) × AreLean new (n ∷ [])
tree_placed t old new n p = grind (arith, nat_tests)

-- ---- Trees whose nodes are in no list yet

pub gathered_none : (m : Memory) → AreGathered [] m m []
gathered_none m = record { stand = tt; apart = tt; frame = frame_reflexive m []; lean = lean_none m }

pub gathered_one : (t : Subtree) {old new : Memory} {n : Node} → IsTreePlaced t old new n → AreGathered (t ∷ []) old new (n ∷ [])
gathered_one t {old} {new} {n} placed = grind (arith, nat_tests, tree_placed, append-nil)

gathered_then : {ts us : List Subtree} {old one two : Memory} {ns ks : List Node} → AreGathered ts old one ns → AreGathered us one two ks
    → AreGathered (ts ++ us) old two (ns ++ ks)
gathered_then {ts} {us} {old} {one} {two} {ns} {ks} first rest =
    let eb = row_blocks ts one ns in
    let nb = row_blocks us two ks in
    let stay = stay_all one two [] nb eb rest.frame (row_readable ts one ns first.stand) (all_none eb) in
    let trees = row_stays ts one two ns first.stand stay.agree stay.readable in
    let both = rows_both ts us two ns ks trees.0 rest.stand in
    let blocks : row_blocks (ts ++ us) two (ns ++ ks) ≡ eb ++ nb = both.1 ∙ ap (λ bs. bs ++ nb) trees.1 in
    record {
      stand = both.0;
      apart = subst ArePairwiseApart (sym blocks) (pairwise_both eb nb first.apart rest.apart stay.apart);
      frame = subst (Frame old two []) (sym blocks)
          (frame_then old one two [] eb (eb ++ nb) first.frame (frame_behind one two nb eb rest.frame));
      lean = lean_both two ns ks (row_stays_lean ts one two ns first.stand stay.agree first.lean) rest.lean;
    }

-- no trees, in a list with no storage
pub row_none : (m : Memory) (v : Vec Node) → IsVecIn node_item m v → vec_list node_item m v ≡ [] → v.raw.block.size ≡ 0
    → IsRowBuilt [] m m v
row_none m v held none size = grind (arith, nat_tests, empty_after, frame_reflexive, lean_none)

-- Trees that were placed before are written into a list with room, in a block that was free.
pub row_of : (ts : List Subtree) {old one mid new : Memory} {v w : Vec Node} {ns : List Node} → AreGathered ts old one ns
    → IsRowBuilt [] one mid v → IsVecIn node_item new w → vec_list node_item new w ≡ vec_list node_item mid v ++ ns
    → Frame mid new (v.raw.block ∷ []) (w.raw.block ∷ []) → IsRowBuilt ts old new w
row_of ts {old} {one} {mid} {new} {v} {w} {ns} placed room held list_is filled =
    let wb = w.raw.block in
    let nb = row_blocks ts one ns in
    let frame : Frame one new [] (wb ∷ []) = frame_then one mid new [] (v.raw.block ∷ []) (wb ∷ []) room.frame filled in
    let stay = stay_all one new [] (wb ∷ []) nb frame (row_readable ts one ns placed.stand) (all_none nb) in
    let trees = row_stays ts one new ns placed.stand stay.agree stay.readable in
    let list : vec_list node_item new w ≡ ns = list_is ∙ ap (λ ks. ks ++ ns) (no_trees (vec_list node_item mid v) room.stand) in
    let blocks : row_blocks ts new (vec_list node_item new w) ≡ nb = ap (row_blocks ts new) list ∙ trees.1 in
    record {
      held = held;
      stand = subst (RowAt ts new) (sym list) trees.0;
      apart = subst (λ bs. ArePairwiseApart (wb ∷ bs)) (sym blocks) (turned_one wb nb stay.apart, placed.apart);
      frame = subst (λ bs. Frame old new [] (wb ∷ bs)) (sym blocks)
          (frame_then old one new [] nb (wb ∷ nb) placed.frame (frame_beside one new [] (wb ∷ []) nb frame));
      lean = subst (AreLean new) (sym list) (row_stays_lean ts one new ns placed.stand stay.agree placed.lean);
    }
  where
    no_trees : (ns : List Node) → RowAt [] mid ns → ns ≡ []
    no_trees [] at = refl
    no_trees (k ∷ ns) at = absurd at

-- A list stays where other blocks are placed.
pub list_kept : {a c : Memory} {v : Vec Node} {blocks : List Block} → IsVecIn node_item a v → Frame a c [] blocks → IsVecIn node_item c v
list_kept {a} {c} {v} {blocks} held frame = grind (arith, nat_tests, stay_all)

-- Trees are placed, and appended to a list that is being built.
module _ (ts us : List Subtree) (old one two : Memory) (v : Vec Node) (ks : List Node) (built : IsRowBuilt ts old one v)
    (placed : AreGathered us one two ks) where
  pub rows_held : IsVecIn node_item two v
  rows_held = list_kept built.held placed.frame

  pub rows_more : (new : Memory) (w : Vec Node) → IsVecIn node_item new w → vec_list node_item new w ≡ vec_list node_item two v ++ ks
      → Frame two new (v.raw.block ∷ []) (w.raw.block ∷ []) → IsRowBuilt (ts ++ us) old new w
  rows_more new w held list_is frame =
      let vb = v.raw.block in
      let wb = w.raw.block in
      let ns = vec_list node_item one v in
      let eb = row_blocks ts one ns in
      let nb = row_blocks us two ks in
      let own = stay_all one two [] nb (vb ∷ []) placed.frame (built.held.place.readable, tt) (tt, tt) in
      let both : Frame one new (vb ∷ []) (wb ∷ nb)
      = frame_then one two new (vb ∷ []) (vb ∷ nb) (wb ∷ nb) (frame_behind one two nb (vb ∷ []) placed.frame)
      (frame_beside two new (vb ∷ []) (wb ∷ []) nb frame) in
      let rest = stay_all one new (vb ∷ []) (wb ∷ nb) eb both (row_readable ts one ns built.stand) (all_apart vb eb built.apart.0) in
      let last = stay_all two new (vb ∷ []) (wb ∷ []) nb frame (row_readable us two ks placed.stand) (all_apart vb nb own.apart.0) in
      let trees = row_stays ts one new ns built.stand rest.agree rest.readable in
      let others = row_stays us two new ks placed.stand last.agree last.readable in
      let more = rows_both ts us new ns ks trees.0 others.0 in
      let list : vec_list node_item new w ≡ ns ++ ks = list_is ∙ ap (λ ls. ls ++ ks) (list_same one two v own.agree.0) in
      let blocks : row_blocks (ts ++ us) new (vec_list node_item new w) ≡ eb ++ nb
      = ap (row_blocks (ts ++ us) new) list ∙ more.1 ∙ (λ i. trees.1 i ++ others.1 i) in
      let each = (all_from_both eb (wb ∷ []) nb).0 rest.apart in
      record {
        held = held;
        stand = subst (RowAt (ts ++ us) new) (sym list) more.0;
        apart = subst (λ bs. ArePairwiseApart (wb ∷ bs)) (sym blocks) (
          apart_both wb.addr wb.size eb nb (turned_one wb eb each.0) (turned_one wb nb last.apart),
          pairwise_both eb nb built.apart.1 placed.apart each.1,
        );
        frame = subst (λ bs. Frame old new [] (wb ∷ bs)) (sym blocks) (frame_then old two new [] (vb ∷ (eb ++ nb)) (wb ∷ (eb ++ nb))
            (frame_then old one two [] (vb ∷ eb) (vb ∷ (eb ++ nb)) built.frame (frame_behind one two nb (vb ∷ eb) placed.frame))
            (frame_beside two new (vb ∷ []) (wb ∷ []) (eb ++ nb) frame));
        lean = subst (AreLean new) (sym list) (lean_both new ns ks (row_stays_lean ts one new ns built.stand rest.agree built.lean)
            (row_stays_lean us two new ks placed.stand last.agree placed.lean));
      }

-- ---- Trees of which the first are in a list

pub read_none : {ts : List Subtree} {old new : Memory} {v : Vec Node} → IsRowBuilt ts old new v → IsRowRead ts old new v []
read_none {ts} {new = new} built = record {
  front = ts;
  back = [];
  all = sym (append-nil ts);
  between = new;
  built = built;
  gathered = gathered_none new;
}

pub read_more : {ts : List Subtree} {old one two : Memory} {v : Vec Node} {ns : List Node} (t : Subtree) (n : Node)
    → IsRowRead ts old one v ns → IsTreePlaced t one two n → IsRowRead (ts ++ t ∷ []) old two v (ns ++ n ∷ [])
read_more t n read placed = record {
  front = read.front;
  back = read.back ++ t ∷ [];
  all = ap (λ rs. rs ++ t ∷ []) read.all ∙ append_assoc read.front read.back (t ∷ []);
  between = read.between;
  built = read.built;
  gathered = gathered_then read.gathered (gathered_one t placed);
}

pub read_frame : {ts : List Subtree} {old new : Memory} {v : Vec Node} {ns : List Node} → IsRowRead ts old new v ns → Frame old new [] []
read_frame {old = old} {new} read = frame_then old read.between new [] [] [] (frame_forget old read.between [] _ read.built.frame)
    (frame_forget read.between new [] _ read.gathered.frame)

pub read_length : {ts : List Subtree} {old new : Memory} {v : Vec Node} {ns : List Node} → IsRowRead ts old new v ns
    → length ts ≡ v.raw.len + length ns
read_length {new = x0} {v} {ns} read = grind (arith, nat_tests, length-append, row_length, list_len)

-- all of them, where the list is empty
pub read_all : {ts : List Subtree} {old new : Memory} {v : Vec Node} {ns : List Node} → IsRowRead ts old new v ns → v.raw.len ≡ 0
    → AreGathered ts old new ns
read_all {ts} {old} {new} {v} {ns} read none = subst (λ rs. AreGathered rs old new ns) (sym (read.all ∙ ap (λ rs. rs ++ read.back) first))
    (gathered_then {ts = []} {us = read.back} {ns = []} {ks = ns} (record {
      stand = tt;
      apart = tt;
      frame = frame_forget old read.between [] _ read.built.frame;
      lean = lean_none read.between;
    }) read.gathered)
  where
    empty : (rs : List Subtree) → length rs ≡ 0 → rs ≡ []
    empty [] is = refl
    empty (r ∷ rs) is = absurd (omega (arith, is))

    first : read.front ≡ []
    first = empty read.front (row_length read.front read.between _ read.built.stand ∙ list_len read.between v ∙ none)

-- ---- Lists of expressions, and of statements

pub exprs_built : (es : Exprs) (old new : Memory) (v : Vec Node) → IsRowBuilt (expr_row es) old new v → IsBuilt es old new v
exprs_built es old new v b =
    let is = expr_blocks_are es new (vec_list node_item new v) in
    record {
      held = b.held;
      stand = row_exprs_at es new _ b.stand;
      apart = subst (λ bs. ArePairwiseApart (v.raw.block ∷ bs)) is b.apart;
      frame = subst (λ bs. Frame old new [] (v.raw.block ∷ bs)) is b.frame;
      lean = b.lean;
    }

pub stmts_built : (ss : Stmts) (old new : Memory) (v : Vec Node) → IsRowBuilt (stmt_row ss) old new v → AreBuilt ss old new v
stmts_built ss old new v b =
    let is = stmt_blocks_are ss new (vec_list node_item new v) in
    record {
      held = b.held;
      stand = row_stmts_at ss new _ b.stand;
      apart = subst (λ bs. ArePairwiseApart (v.raw.block ∷ bs)) is b.apart;
      frame = subst (λ bs. Frame old new [] (v.raw.block ∷ bs)) is b.frame;
      lean = b.lean;
    }

-- one more, in the lists of the grammar
pub exprs_more : (es : Exprs) (e : Expr) {old new : Memory} {v : Vec Node} {ns : List Node} → IsRowRead (expr_row es ++ OfExpr e ∷ []) old new v ns
    → IsRowRead (expr_row (with_expr es e)) old new v ns
exprs_more es e {old} {new} {v} {ns} = subst (λ ts. IsRowRead ts old new v ns) (sym (is es))
  where
    is : (es : Exprs) → expr_row (with_expr es e) ≡ expr_row es ++ OfExpr e ∷ []
    is NoExprs = refl
    is (And f es) = ap (λ ts. OfExpr f ∷ ts) (is es)

pub stmts_more : (ss : Stmts) (s : Stmt) {old new : Memory} {v : Vec Node} → IsRowBuilt (stmt_row ss ++ OfStmt s ∷ []) old new v
    → IsRowBuilt (stmt_row (with_stmt ss s)) old new v
stmts_more ss s {old} {new} {v} = subst (λ ts. IsRowBuilt ts old new v) (sym (is ss))
  where
    is : (ss : Stmts) → stmt_row (with_stmt ss s) ≡ stmt_row ss ++ OfStmt s ∷ []
    is NoStmts = refl
    is (Then r ss) = ap (λ ts. OfStmt r ∷ ts) (is ss)

-- ---- The next tree

pub record Kid (ts : List Subtree) (m : Memory) (i : ℕ) (k : Node) : Type 0 where
  pub tree : Subtree
  pub stands : SubtreeAt tree m k
  pub front : take (suc i) ts ≡ take i ts ++ tree ∷ []
  pub rest : drop i ts ≡ tree ∷ drop (suc i) ts
  pub low : 1 + below_it tree ≤ row_nodes ts

pub kid_of : (ts : List Subtree) (m : Memory) (ns : List Node) (i : ℕ) (k : Node) → RowAt ts m ns → slice_get ns i ≡ Some k → Kid ts m i k
kid_of [] m [] i k at is = absurd (none_node k is)
kid_of (t ∷ ts) m (n ∷ ns) zero k at is =
    record { tree = t; stands = subst (SubtreeAt t m) (some_node n k is) at.0; front = refl; rest = refl; low = omega arith }
kid_of (t ∷ ts) m (n ∷ ns) (suc i) k at is =
    let r = kid_of ts m ns i k at.1 is in
    record { tree = r.tree; stands = r.stands; front = ap (λ rs. t ∷ rs) r.front; rest = r.rest; low = omega (arith, r.low) }
kid_of ts m ns i k at is = absurd at

pub kid_can : (ts : List Subtree) (m : Memory) (ns : List Node) (i room : ℕ) (k : Node) → RowAt ts m ns → slice_get ns i ≡ Some k
    → row_nodes ts < room → HasTree m k (room - 1)
kid_can ts m ns i room k at is low =
    let r = kid_of ts m ns i k at is in
    record { tree = r.tree; stands = r.stands; low = omega (arith, r.low, low) }

pub row_whole : (ts : List Subtree) (m : Memory) (ns : List Node) (i : ℕ) → RowAt ts m ns → length ns ≤ i → take i ts ≡ ts
row_whole ts m ns i at h = take_all i ts (omega (arith, h, row_length ts m ns at))
