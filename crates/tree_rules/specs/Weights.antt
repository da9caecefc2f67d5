-- The weight of statements: a byte for each definition and each block, and the bytes of the names that are defined.
use Rattle.std.specs.Prelude.{ℕ, ◌+◌, length}
use Rattle.tree_rules.specs.Trees.{Stmt, Let, Show, Block, Stmts, NoStmts, Then}

abbrev mutual
  pub weight : Stmt → ℕ
  weight (Let name e) = 1 + length name
  weight (Show e) = 0
  weight (Block body) = 1 + weights body

  pub weights : Stmts → ℕ
  weights NoStmts = 0
  weights (Then s rest) = weight s + weights rest
