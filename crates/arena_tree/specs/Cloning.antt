-- What a copy of a tree in another arena returns, and what it takes.
use Rattle.std.specs.Prelude.{ℕ, ◌+◌, ◌*◌, List, [], ◌∷◌, ◌++◌, length, Result, Ok, Err}
use Rattle.arena_chunks.specs.Source.{View}
use Rattle.arena_chunks.specs.Frame.{Frame}
use Rattle.tree_rules.specs.Trees.{Expr, Num, Name, Neg, Sum, Prod, Exprs, NoExprs, And, Stmt, Let, Show, Stmts, NoStmts, Then}
use Rattle.tree_rules.specs.Trees as tree
use Rattle.arena_chunks.specs.Answers.Answer.{Refused as NotPlaced, Exhausted}
use Rattle.arena_store.specs.declared.block.Block.{Block}
use Rattle.arena_items.specs.Asks.{Ask, Fresh, Runs, EndsAt, refusal}
use Rattle.arena_items.specs.declared.room.AllocError.{AllocError}
use Rattle.arena_tree.specs.Counts.{below, below_stmt, stmt_nodes}
use Rattle.arena_tree.specs.StmtsAt.{AreBuilt}
use Rattle.arena_tree.specs.Subtrees.{Subtree, OfExpr, OfStmt, expr_row, stmt_row}
use Rattle.arena_tree.specs.Asking.{Ran, list_ask}
use Rattle.arena_tree.specs.Parsing.{IsShortOf}
use Rattle.arena_tree.specs.declared.tree.Tree.{Tree}
use Rattle.arena_tree.specs.declared.tree.TreeErr.{TreeErr}
use Rattle.arena_tree.specs.declared.tree.TreeErr.TheVariants.{Syntax, TooDeep, NumberTooBig, AllocErr, OutOfMemory}

-- how many bytes the names of a tree have
abbrev mutual
  pub name_bytes : Expr → ℕ
  name_bytes (Num n) = 0
  name_bytes (Name bytes) = length bytes
  name_bytes (Neg e) = name_bytes e
  name_bytes (Sum kids) = names_bytes kids
  name_bytes (Prod kids) = names_bytes kids

  pub names_bytes : Exprs → ℕ
  names_bytes NoExprs = 0
  names_bytes (And e rest) = name_bytes e + names_bytes rest

abbrev mutual
  pub stmt_name_bytes : Stmt → ℕ
  stmt_name_bytes (Let name e) = length name + name_bytes e
  stmt_name_bytes (Show e) = name_bytes e
  stmt_name_bytes (tree.Block body) = stmts_name_bytes body

  pub stmts_name_bytes : Stmts → ℕ
  stmts_name_bytes NoStmts = 0
  stmts_name_bytes (Then s rest) = stmt_name_bytes s + stmts_name_bytes rest

-- the most bytes of the arena that a tree's copy takes: 128 for each node, and one for each byte of the names
abbrev pub clone_bytes : Stmts → ℕ
clone_bytes ss = 128 * stmt_nodes ss + stmts_name_bytes ss

-- those of what is below one node, and of a list of nodes
abbrev pub below_bytes : Subtree → ℕ
below_bytes (OfExpr e) = 128 * below e + name_bytes e
below_bytes (OfStmt s) = 128 * below_stmt s + stmt_name_bytes s

abbrev pub row_bytes : List Subtree → ℕ
row_bytes [] = 0
row_bytes (t ∷ ts) = 128 + below_bytes t + row_bytes ts

-- what the copy of a tree asks for, in order: the bytes of each name, and for each list one with room for its nodes and no
-- more
abbrev mutual
  pub copy_asks : Expr → List (Ask ℕ)
  copy_asks (Num n) = []
  copy_asks (Name bytes) = Fresh (length bytes) 1 ∷ []
  copy_asks (Neg e) = list_ask 1 ∷ copy_asks e
  copy_asks (Sum kids) = list_ask (length (expr_row kids)) ∷ copies_asks kids
  copy_asks (Prod kids) = list_ask (length (expr_row kids)) ∷ copies_asks kids

  pub copies_asks : Exprs → List (Ask ℕ)
  copies_asks NoExprs = []
  copies_asks (And e rest) = copy_asks e ++ copies_asks rest

abbrev mutual
  pub stmt_copy_asks : Stmt → List (Ask ℕ)
  stmt_copy_asks (Let name e) = Fresh (length name) 1 ∷ list_ask 1 ∷ copy_asks e
  stmt_copy_asks (Show e) = list_ask 1 ∷ copy_asks e
  stmt_copy_asks (tree.Block body) = list_ask (length (stmt_row body)) ∷ stmts_copy_asks body

  pub stmts_copy_asks : Stmts → List (Ask ℕ)
  stmts_copy_asks NoStmts = []
  stmts_copy_asks (Then s rest) = stmt_copy_asks s ++ stmts_copy_asks rest

abbrev pub tree_copy_asks : Stmts → List (Ask ℕ)
tree_copy_asks trees = list_ask (length (stmt_row trees)) ∷ stmts_copy_asks trees

-- that of what is below one node, and of a list of nodes
abbrev pub below_asks : Subtree → List (Ask ℕ)
below_asks (OfExpr e) = copy_asks e
below_asks (OfStmt s) = stmt_copy_asks s

abbrev pub kids_asks : List Subtree → List (Ask ℕ)
kids_asks [] = []
kids_asks (t ∷ ts) = below_asks t ++ kids_asks ts

abbrev pub row_asks : List Subtree → List (Ask ℕ)
row_asks ts = list_ask (length ts) ∷ kids_asks ts

-- All of these were asked for, one after another, and placed; or they were up to one, which has no place.
abbrev pub AsksAll : {X : Type 0} → List (Ask ℕ) → View → View → Result X AllocError → Type 0
AsksAll asks old new (Ok x) = Ran (λ n. asks) old new
AsksAll asks old new (Err e) = (blocks : List Block) → EndsAt asks blocks old new (refusal e)

-- the same of the whole copy
abbrev pub CopyAsks : Stmts → View → View → Result Tree TreeErr → Type 0
CopyAsks trees old new (Ok t) = (later : List Block) × Runs (tree_copy_asks trees) [] old later new
CopyAsks trees old new (Err (AllocErr k)) = EndsAt (tree_copy_asks trees) [] old new (NotPlaced k)
CopyAsks trees old new (Err OutOfMemory) = EndsAt (tree_copy_asks trees) [] old new Exhausted
CopyAsks trees old new (Err (Syntax at)) = ⊥
CopyAsks trees old new (Err (TooDeep at)) = ⊥
CopyAsks trees old new (Err (NumberTooBig at)) = ⊥

-- A tree is placed that means these statements, on blocks that were free and are apart from each other, or a block of
-- it is refused. No text is judged, so none is refused.
abbrev pub Clones : Stmts → View → View → Result Tree TreeErr → Type 0
Clones trees old new (Ok t) = AreBuilt trees old.memory new.memory t.stmts
Clones trees old new (Err (AllocErr k)) = IsShortOf (clone_bytes trees) k old new × Frame old.memory new.memory [] []
Clones trees old new (Err OutOfMemory) = Frame old.memory new.memory [] []
Clones trees old new (Err (Syntax at)) = ⊥
Clones trees old new (Err (TooDeep at)) = ⊥
Clones trees old new (Err (NumberTooBig at)) = ⊥
