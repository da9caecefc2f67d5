-- What copies of nodes and of lists of nodes ask for.
use Rattle.std.proofs.lemmas.List.{take-append-drop}
use Rattle.std.proofs.Common.{◌≡◌, ℕ, suc, ◌*◌, ◌==◌, if◌then◌else◌, Bool, true, false, refl, sym, ap, ◌∙◌, subst, Result, Option, None, List, [], ◌∷◌, ◌++◌, length, take, drop, append_assoc, append-nil}
use Rattle.arena_chunks.specs.Memory.{Memory}
use Rattle.arena_chunks.specs.Source.{View}
use Rattle.arena_chunks.specs.Answers.{Answer}
use Rattle.arena_store.specs.declared.block.Block.{Block}
use Rattle.arena_items.specs.Asks.{Ask, NoBlock, Fresh, Asked, TakesBlock, refusal, Runs, EndsAt}
use Rattle.arena_items.specs.Room.{SamePlaces}
use Rattle.arena_items.specs.Values.{text_bytes}
use Rattle.arena_items.specs.declared.room.AllocError.{AllocError}
use Rattle.arena_items.proofs.Layers.{ends_then}
use Rattle.tree_rules.specs.Trees.{Expr, Exprs, NoExprs, And, Num, Name, Neg, Sum, Prod, Let, Show, Stmts, NoStmts, Then}
use Rattle.tree_rules.specs.Trees as tree
use Rattle.tree_nodes.specs.declared.node.Kind.TheVariants as kind
use Rattle.tree_nodes.specs.declared.node.Node.{Node}
use Rattle.tree_nodes.proofs.SpendingLemmas.{IsHandedOn, handed_on}
use Rattle.tree_nodes.proofs.SubtreeLemmas.{kids_it}
use Rattle.arena_tree.specs.Asking.{Ran, list_ask}
use Rattle.arena_tree.specs.Cloning.{AsksAll, copy_asks, copies_asks, stmts_copy_asks, tree_copy_asks, below_asks, kids_asks, row_asks}
use Rattle.arena_tree.specs.Subtrees.{Subtree, OfExpr, OfStmt, SubtreeAt, expr_row, stmt_row}
use Rattle.arena_tree.proofs.RunLemmas.{ran_block, ran_then, ran_as, ran_same, one_ends}

-- ---- Rows

exprs_asks : (es : Exprs) → kids_asks (expr_row es) ≡ copies_asks es
exprs_asks NoExprs = refl
exprs_asks (And e rest) = ap (λ (list : List (Ask ℕ)). copy_asks e ++ list) (exprs_asks rest)

stmts_asks : (ss : Stmts) → kids_asks (stmt_row ss) ≡ stmts_copy_asks ss
stmts_asks NoStmts = refl
stmts_asks (Then s rest) = ap (λ (list : List (Ask ℕ)). below_asks (OfStmt s) ++ list) (stmts_asks rest)

both_asks : (ts more : List Subtree) → kids_asks (ts ++ more) ≡ kids_asks ts ++ kids_asks more
both_asks [] more = refl
both_asks (t ∷ ts) more = ap (λ (list : List (Ask ℕ)). below_asks t ++ list) (both_asks ts more)
    ∙ sym (append_assoc (below_asks t) (kids_asks ts) (kids_asks more))

-- one child more, and those behind it
module _ (ts : List Subtree) (i : ℕ) (t : Subtree) where
  more_asks : take (suc i) ts ≡ take i ts ++ t ∷ [] → kids_asks (take i ts) ++ below_asks t ≡ kids_asks (take (suc i) ts)
  more_asks front = ap (λ (list : List (Ask ℕ)). kids_asks (take i ts) ++ list) (sym (append-nil (below_asks t)))
      ∙ sym (both_asks (take i ts) (t ∷ [])) ∙ ap kids_asks (sym front)

  pub split_asks : take (suc i) ts ≡ take i ts ++ t ∷ []
      → row_asks ts ≡ ((list_ask (length ts) ∷ kids_asks (take i ts)) ++ below_asks t) ++ kids_asks (drop (suc i) ts)
  split_asks front = ap (λ (list : List (Ask ℕ)). list_ask (length ts) ∷ list)
      (ap kids_asks (sym (take-append-drop (suc i) ts)) ∙ both_asks (take (suc i) ts) (drop (suc i) ts)
      ∙ ap (λ (list : List (Ask ℕ)). list ++ kids_asks (drop (suc i) ts)) (sym (more_asks front)))

-- ---- Nodes

one_asks : (e : Expr) → copy_asks e ≡ kids_asks (OfExpr e ∷ [])
one_asks e = sym (append-nil (copy_asks e))

module _ (m : Memory) (n : Node) where
  pub number_asks : (t : Subtree) → SubtreeAt t m n → n.kind ≡ kind.Num → below_asks t ≡ []
  number_asks (OfExpr (Num k)) at is = refl
  number_asks (OfStmt (Let name e)) at is = cc
  number_asks t at is = cc

  pub name_asks : (t : Subtree) → SubtreeAt t m n → n.kind ≡ kind.Name → below_asks t ≡ Fresh (length (text_bytes m n.text)) 1 ∷ []
  name_asks (OfExpr (Name bytes)) at is = ap (λ (b : List ℕ). Fresh (length b) 1 ∷ []) (sym at.2)
  name_asks (OfStmt (Let name e)) at is = cc
  name_asks t at is = cc

  pub let_asks : (t : Subtree) → SubtreeAt t m n → n.kind ≡ kind.Let
      → below_asks t ≡ Fresh (length (text_bytes m n.text)) 1 ∷ row_asks (kids_it t)
  let_asks (OfStmt (Let name e)) at is = ap (λ (b : List ℕ). Fresh (length b) 1 ∷ list_ask 1 ∷ copy_asks e) (sym at.2)
      ∙ ap (λ (list : List (Ask ℕ)). Fresh (length (text_bytes m n.text)) 1 ∷ list_ask 1 ∷ list) (one_asks e)
  let_asks (OfExpr (Num k)) at is = cc
  let_asks t at is = cc

  pub list_asks : (t : Subtree) → SubtreeAt t m n → (n.kind ≡ kind.Num → ⊥) → (n.kind ≡ kind.Name → ⊥) → (n.kind ≡ kind.Let → ⊥)
      → below_asks t ≡ row_asks (kids_it t)
  list_asks (OfExpr (Neg e)) at num name lets = ap (λ (list : List (Ask ℕ)). list_ask 1 ∷ list) (one_asks e)
  list_asks (OfExpr (Sum kids)) at num name lets =
      ap (λ (list : List (Ask ℕ)). list_ask (length (expr_row kids)) ∷ list) (sym (exprs_asks kids))
  list_asks (OfExpr (Prod kids)) at num name lets =
      ap (λ (list : List (Ask ℕ)). list_ask (length (expr_row kids)) ∷ list) (sym (exprs_asks kids))
  list_asks (OfStmt (Show e)) at num name lets = ap (λ (list : List (Ask ℕ)). list_ask 1 ∷ list) (one_asks e)
  list_asks (OfStmt (tree.Block body)) at num name lets =
      ap (λ (list : List (Ask ℕ)). list_ask (length (stmt_row body)) ∷ list) (sym (stmts_asks body))
  list_asks (OfExpr (Num k)) at num name lets = absurd (num at.0)
  list_asks (OfExpr (Name bytes)) at num name lets = absurd (name at.0)
  list_asks (OfStmt (Let name e)) at num named lets = absurd (lets at.0)

-- ---- What was asked for

pub list_ran : {old new : View} (after : Option Block) (n len : ℕ) → n ≡ len → TakesBlock (list_ask len) None old new after
    → Ran (λ k. list_ask n ∷ []) old new
unfolding Runs
list_ran {old} {new} after n len same took =
    by (n == 0) (subst (λ (m : ℕ). TakesBlock (list_ask m) None old new after) (sym same) took)
  where
    by : (b : Bool) → TakesBlock (if b then NoBlock else Fresh (n * 88) 8) None old new after
        → Ran (λ k. (if b then NoBlock else Fresh (n * 88) 8) ∷ []) old new
    by true took = record { later = λ blocks. blocks; runs = λ blocks. (refl, took.1) }
    by false took = ran_block old new None after (n * 88) 8 took

pub list_ends : {old new : View} {answer : Answer} (n len : ℕ) (blocks : List Block) → n ≡ len → Asked (list_ask len) old new answer
    → EndsAt (list_ask n ∷ []) blocks old new answer
list_ends {old} {new} {answer} n len blocks same asked =
    by (n == 0) (subst (λ (m : ℕ). Asked (list_ask m) old new answer) (sym same) asked)
  where
    by : (b : Bool) → Asked (if b then NoBlock else Fresh (n * 88) 8) old new answer
        → EndsAt ((if b then NoBlock else Fresh (n * 88) 8) ∷ []) blocks old new answer
    by true asked = absurd asked.answers
    by false asked = one_ends (Fresh (n * 88) 8) blocks asked

-- the same in other words
pub ran_is : {old new : View} {asks others : List (Ask ℕ)} → others ≡ asks → Ran (λ n. asks) old new → Ran (λ n. others) old new
ran_is {old} {new} same = subst (λ (list : List (Ask ℕ)). Ran (λ n. list) old new) (sym same)

pub err_asks : {X : Type 0} {old new : View} {asks others : List (Ask ℕ)} (result : Result X AllocError) (e : AllocError) → IsHandedOn result e
    → others ≡ asks → ((blocks : List Block) → EndsAt asks blocks old new (refusal e)) → AsksAll others old new result
err_asks {X} {old} {new} {asks} {others} result e is same ends = handed_on (λ (r : Result X AllocError). AsksAll others old new r) result e is
    (λ blocks. subst (λ list. EndsAt list blocks old new (refusal e)) (sym same) (ends blocks))

-- Some were placed, and the next ones weren't.
pub ends_behind : {old mid new : View} {answer : Answer} (asks more : List (Ask ℕ)) → Ran (λ n. asks) old mid
    → ((blocks : List Block) → EndsAt more blocks mid new answer) → (blocks : List Block) → EndsAt (asks ++ more) blocks old new answer
ends_behind {old} {mid} {new} {answer} asks more ran ends blocks =
    ends_then asks more blocks (ran.later blocks) old mid new answer (ran.runs blocks) (ends (ran.later blocks))

-- one child more, and what is written for it
pub ran_more : {old mid two new : View} (ts : List Subtree) (i : ℕ) (t : Subtree) → take (suc i) ts ≡ take i ts ++ t ∷ []
    → Ran (λ n. list_ask (length ts) ∷ kids_asks (take i ts)) old mid → Ran (λ n. below_asks t) mid two → SamePlaces two new
    → Ran (λ n. list_ask (length ts) ∷ kids_asks (take (suc i) ts)) old new
ran_more {old} {mid} {two} {new} ts i t front ran kid same =
    ran_as (λ n. (list_ask (length ts) ∷ kids_asks (take i ts)) ++ below_asks t) (λ n. list_ask (length ts) ∷ kids_asks (take (suc i) ts))
    (λ n. ap (λ (list : List (Ask ℕ)). list_ask (length ts) ∷ list) (more_asks ts i t front))
    (ran_same (λ n. (list_ask (length ts) ∷ kids_asks (take i ts)) ++ below_asks t)
    (ran_then (λ n. list_ask (length ts) ∷ kids_asks (take i ts)) (λ n. below_asks t) ran kid) same)

-- ---- A tree

tree_is : (ss : Stmts) → row_asks (stmt_row ss) ≡ tree_copy_asks ss
tree_is ss = ap (λ (list : List (Ask ℕ)). list_ask (length (stmt_row ss)) ∷ list) (stmts_asks ss)

pub tree_ran : {old new : View} (ss : Stmts) → Ran (λ n. row_asks (stmt_row ss)) old new
    → (later : List Block) × Runs (tree_copy_asks ss) [] old later new
tree_ran {old} {new} ss ran = (ran.later [], subst (λ list. Runs list [] old (ran.later []) new) (tree_is ss) (ran.runs []))

pub tree_ends : {old new : View} {answer : Answer} (ss : Stmts) → ((blocks : List Block) → EndsAt (row_asks (stmt_row ss)) blocks old new answer)
    → EndsAt (tree_copy_asks ss) [] old new answer
tree_ends {old} {new} {answer} ss ends = subst (λ list. EndsAt list [] old new answer) (tree_is ss) (ends [])
