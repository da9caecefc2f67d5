-- Trees apart from writes are unchanged, on the same blocks.
use Rattle.std.proofs.lemmas.Bool.Decides.{nat_tests}
use Rattle.std.proofs.Common.{arith, ℕ, refl, List, [], ◌∷◌, ◌++◌}
use Rattle.arena_chunks.specs.Memory.{Memory}
use Rattle.arena_chunks.specs.Frame.{IsApart, AreAllApart}
use Rattle.arena_store.specs.declared.block.Block.{Block}
use Rattle.arena_chunks.proofs.Layers.{all_from_both}
use Rattle.arena_kinds.proofs.Layers.{all_turned}
use Rattle.tree_nodes.specs.declared.node.Node.{Node}
use Rattle.arena_tree.specs.TreesAt.{OfLists, OfTexts, expr_blocks, AreLean}
use Rattle.arena_tree.specs.StmtsAt.{stmt_blocks}
use Rattle.arena_tree.specs.TreeLaws.{expr_readable, expr_same, expr_again}
use Rattle.arena_tree.specs.StmtLaws.{stmt_readable, stmt_same, stmt_again}
use Rattle.arena_tree.specs.Subtrees.{Subtree, OfExpr, OfStmt, SubtreeAt, blocks_at, lists_at, texts_at, RowAt, row_lists, row_texts}
use Rattle.arena_tree.specs.FoldingParts.{StandsOn, StandOn, WritesIn}
use Rattle.tree_nodes.proofs.PartsLemmas.{Parts, None, First, Second, expr_parts, stmt_parts}
use Rattle.tree_nodes.proofs.LeanLemmas.{lean_none, lean_both, lean_first, lean_rest, it_stays_lean}
use Rattle.tree_nodes.proofs.StayLemmas.{StayAll, stay_all}
use Rattle.arena_tree.proofs.FoldBlockLemmas.{AreBeside}

pub row_both : {t : Subtree} {ts : List Subtree} {m : Memory} {n : Node} {ns : List Node} {b q bt qt : List Block} → StandsOn t m n b bt
    → StandOn ts m ns q qt → StandOn (t ∷ ts) m (n ∷ ns) (b ++ q) (bt ++ qt)
row_both one rest = grind (arith, nat_tests)

pub apart_from_both : (addr n : ℕ) (bs ls ts : List Block) → Parts bs ls ts → IsApart addr n ls → IsApart addr n ts → IsApart addr n bs
apart_from_both addr n bs ls ts None l t = tt
apart_from_both addr n bs ls ts (First b bs' ls' ts' parts) l t = (l.0, apart_from_both addr n bs' ls' ts' parts l.1 t)
apart_from_both addr n bs ls ts (Second b bs' ls' ts' parts) l t = (t.0, apart_from_both addr n bs' ls' ts' parts l t.1)

parts_beside : (ws bs ls ts : List Block) → Parts bs ls ts → AreBeside ws ls ts → AreAllApart ws bs
parts_beside [] bs ls ts p h = tt
parts_beside (w ∷ ws) bs ls ts p h =
    (apart_from_both w.addr w.size bs ls ts p h.0.0 h.1.0, parts_beside ws bs ls ts p (h.0.1, h.1.1))

it_stays : {a c : Memory} {ws : List Block} (t : Subtree) (n : Node) → WritesIn a c ws → SubtreeAt t a n
    → AreBeside ws (lists_at t a n) (texts_at t a n) → StayAll a c ws (blocks_at t a n)
it_stays {a} {c} {ws} (OfExpr e) n w at h = stay_all a c ws ws (expr_blocks e a n) w.frame (expr_readable e a n at)
    (all_turned ws (expr_blocks e a n) (parts_beside ws _ _ _ (expr_parts e a n) h))
it_stays {a} {c} {ws} (OfStmt s) n w at h = stay_all a c ws ws (stmt_blocks s a n) w.frame (stmt_readable s a n at)
    (all_turned ws (stmt_blocks s a n) (parts_beside ws _ _ _ (stmt_parts s a n) h))

beside : {a c : Memory} {ws : List Block} (t : Subtree) (n : Node) → SubtreeAt t a n → StayAll a c ws (blocks_at t a n)
    → StandsOn t c n (lists_at t a n) (texts_at t a n)
beside {a} {c} (OfExpr e) n at stay = record {
  stands = expr_again e a c n at stay.agree stay.readable;
  lists = expr_same OfLists e a c n stay.agree;
  texts = expr_same OfTexts e a c n stay.agree;
}
beside {a} {c} (OfStmt s) n at stay = record {
  stands = stmt_again s a c n at stay.agree stay.readable;
  lists = stmt_same OfLists s a c n stay.agree;
  texts = stmt_same OfTexts s a c n stay.agree;
}

all_beside : {a c : Memory} {ws : List Block} (ts : List Subtree) (ns : List Node) → WritesIn a c ws → RowAt ts a ns
    → AreBeside ws (row_lists ts a ns) (row_texts ts a ns) → StandOn ts c ns (row_lists ts a ns) (row_texts ts a ns)
all_beside [] [] w at h = record { stand = tt; lists = refl; texts = refl }
all_beside {a} {c} {ws} (t ∷ ts) (n ∷ ns) w at h =
    let ls = (all_from_both ws (lists_at t a n) (row_lists ts a ns)).0 h.0 in
    let xs = (all_from_both ws (texts_at t a n) (row_texts ts a ns)).0 h.1 in
    row_both (beside t n at.0 (it_stays t n w at.0 (ls.0, xs.0))) (all_beside ts ns w at.1 (ls.1, xs.1))
all_beside ts ns w at h = absurd at

-- Nodes that hold nothing that their kinds don't use still don't.
lean_beside : {a c : Memory} {ws : List Block} (t : Subtree) (n : Node) → WritesIn a c ws → SubtreeAt t a n
    → AreBeside ws (lists_at t a n) (texts_at t a n) → AreLean a (n ∷ []) → AreLean c (n ∷ [])
lean_beside {a} {c} t n w at h = it_stays_lean t a c n at (it_stays t n w at h).agree

all_lean_beside : {a c : Memory} {ws : List Block} (ts : List Subtree) (ns : List Node) → WritesIn a c ws → RowAt ts a ns
    → AreBeside ws (row_lists ts a ns) (row_texts ts a ns) → AreLean a ns → AreLean c ns
all_lean_beside {a} {c} [] [] w at h lean = lean_none c
all_lean_beside {a} {c} {ws} (t ∷ ts) (n ∷ ns) w at h lean =
    let ls = (all_from_both ws (lists_at t a n) (row_lists ts a ns)).0 h.0 in
    let xs = (all_from_both ws (texts_at t a n) (row_texts ts a ns)).0 h.1 in
    lean_both c (n ∷ []) ns (lean_beside t n w at.0 (ls.0, xs.0) (lean_first a n ns lean))
    (all_lean_beside ts ns w at.1 (ls.1, xs.1) (lean_rest a n ns lean))
all_lean_beside ts ns w at h lean = absurd at

pub on_lean_beside : {t : Subtree} {old new : Memory} {n : Node} {ls ts ws : List Block} → WritesIn old new ws → StandsOn t old n ls ts
    → AreBeside ws ls ts → AreLean old (n ∷ []) → AreLean new (n ∷ [])
on_lean_beside {t} {n = n} w on h = lean_beside t n w on.stands (rw (on.lists, on.texts) h)

pub row_on_lean_beside : {trees : List Subtree} {old new : Memory} {ns : List Node} {ls ts ws : List Block} → WritesIn old new ws
    → StandOn trees old ns ls ts → AreBeside ws ls ts → AreLean old ns → AreLean new ns
row_on_lean_beside {trees} {ns = ns} w on h = all_lean_beside trees ns w on.stand (rw (on.lists, on.texts) h)

pub on_beside : {t : Subtree} {old new : Memory} {n : Node} {ls ts ws : List Block} → WritesIn old new ws → StandsOn t old n ls ts
    → AreBeside ws ls ts → StandsOn t new n ls ts
on_beside {t} {n = n} w on h = rw (on.lists, on.texts) at (beside t n on.stands (it_stays t n w on.stands (rw (on.lists, on.texts) h)))

pub row_on_beside : {trees : List Subtree} {old new : Memory} {ns : List Node} {ls ts ws : List Block} → WritesIn old new ws
    → StandOn trees old ns ls ts → AreBeside ws ls ts → StandOn trees new ns ls ts
row_on_beside {trees} {ns = ns} w on h = rw (on.lists, on.texts) at (all_beside trees ns w on.stand (rw (on.lists, on.texts) h))
