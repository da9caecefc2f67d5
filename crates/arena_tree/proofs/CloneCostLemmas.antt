-- What copies of trees cost, node by node.
use Rattle.std.proofs.Common.{◌≡◌, ℕ, suc, ◌+◌, ◌*◌, ◌≤◌, ap, refl, subst, Option, None, List, [], ◌∷◌, drop, length, arith}
use Rattle.arena_chunks.specs.Memory.{Memory}
use Rattle.arena_chunks.specs.Source.{View}
use Rattle.arena_chunks.specs.Frame.{Frame}
use Rattle.arena_items.specs.Denied.{Layouts}
use Rattle.arena_items.specs.declared.room.AllocError.{AllocError}
use Rattle.tree_rules.specs.Trees.{Exprs, NoExprs, And, Sum, Prod, Stmts, NoStmts, Then}
use Rattle.tree_rules.specs.Trees as tree
use Rattle.tree_nodes.specs.declared.node.Node.{Node}
use Rattle.arena_tree.specs.Counts.{nodes}
use Rattle.arena_tree.specs.Spending.{AnyBlock, Spends}
use Rattle.arena_tree.specs.Cloning.{names_bytes, clone_bytes, below_bytes, row_bytes}
use Rattle.arena_tree.specs.Subtrees.{Subtree, OfExpr, OfStmt, expr_row, stmt_row, RowAt}
use Rattle.tree_nodes.proofs.SpendingLemmas.{spends_then, spends_more}
use Rattle.tree_nodes.proofs.RowLemmas.{Kid}
use Rattle.tree_nodes.proofs.SubtreeLemmas.{kids_it, own_bytes}

pub forget : {layouts : Layouts} {bytes after : ℕ} {old new : View} {e : Option AllocError} → Spends layouts bytes 0 after old new e
    → Spends layouts bytes 0 0 old new e
forget spends = spends_more spends (omega arith) (omega arith)

-- ---- A list of nodes

-- what the nodes cost besides their own places
abbrev pub row_below : List Subtree → ℕ
row_below [] = 0
row_below (t ∷ ts) = below_bytes t + row_below ts

row_cost : (ts : List Subtree) (m : Memory) (ns : List Node) → RowAt ts m ns → row_bytes ts ≡ 128 * length ns + row_below ts
row_cost [] m [] at = refl
row_cost (t ∷ ts) m (n ∷ ns) at = omega (arith, row_cost ts m ns at.1)
row_cost ts m ns at = absurd at

-- room for the list is asked for
pub row_room : {layouts : Layouts} {old new : View} {e : Option AllocError} (ts : List Subtree) (m : Memory) (ns : List Node) (len : ℕ)
    → RowAt ts m ns → length ns ≡ len → Spends layouts (128 * len) 0 0 old new e → Spends layouts (row_bytes ts) 0 (row_below ts) old new e
row_room ts m ns len at is spends =
    let all = row_cost ts m ns at in
    spends_more spends (omega (arith, all, is)) (omega (arith, all, is))

-- and then for one node more
pub row_kid : {some layouts : Layouts} {old one two : View} {e : Option AllocError} (ts : List Subtree) (m : Memory) (i : ℕ) (k : Node) (kid : Kid ts m i k)
    → Frame old.memory one.memory [] [] → Spends layouts (below_bytes kid.tree) 0 0 one two e
    → Spends some (row_bytes ts) 0 (row_below (drop i ts)) old one None
    → Spends layouts (row_bytes ts) 0 (row_below (drop (suc i) ts)) old two e
row_kid ts m i k kid frame copy spends =
    let left = ap row_below kid.rest in
    spends_then spends copy frame (omega arith) (omega (arith, left)) (omega (arith, left))

-- ---- A node

expr_row_bytes : (es : Exprs) → row_bytes (expr_row es) ≡ 128 * nodes es + names_bytes es
expr_row_bytes NoExprs = refl
expr_row_bytes (And e rest) = omega (arith, expr_row_bytes rest)

pub stmt_row_bytes : (ss : Stmts) → row_bytes (stmt_row ss) ≡ clone_bytes ss
stmt_row_bytes NoStmts = refl
stmt_row_bytes (Then s rest) = omega (arith, stmt_row_bytes rest)

below_is : (t : Subtree) → below_bytes t ≡ own_bytes t + row_bytes (kids_it t)
below_is (OfExpr (Sum kids)) = omega (arith, expr_row_bytes kids)
below_is (OfExpr (Prod kids)) = omega (arith, expr_row_bytes kids)
below_is (OfStmt (tree.Block body)) = omega (arith, stmt_row_bytes body)
below_is t = omega arith

-- a text, or children
pub part_spends : {layouts : Layouts} {old new : View} {e : Option AllocError} {part : ℕ} (t : Subtree)
    → part ≤ own_bytes t + row_bytes (kids_it t) → Spends layouts part 0 0 old new e → Spends layouts (below_bytes t) 0 0 old new e
part_spends t within spends = spends_more spends (omega (arith, within, below_is t)) (omega (arith, within, below_is t))

-- a text, and then children
pub both_spend : {some layouts : Layouts} {old one new : View} {e : Option AllocError} {len : ℕ} (t : Subtree) → len ≡ own_bytes t
    → Spends some len 0 0 old one None → Frame old.memory one.memory [] [] → Spends layouts (row_bytes (kids_it t)) 0 0 one new e
    → Spends layouts (below_bytes t) 0 0 old new e
both_spend t is text frame kids =
    spends_then text kids frame (omega (arith, is, below_is t)) (omega (arith, is, below_is t)) (omega (arith, is, below_is t))

-- the list of a tree's statements
pub spends_tree : {old new : View} {e : Option AllocError} (ss : Stmts)
    → Spends AnyBlock (row_bytes (stmt_row ss)) 0 0 old new e → Spends AnyBlock (clone_bytes ss) 0 0 old new e
spends_tree {old} {new} {e} ss = subst (λ n. Spends AnyBlock n 0 0 old new e) (stmt_row_bytes ss)
