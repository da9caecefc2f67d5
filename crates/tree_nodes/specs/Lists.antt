-- The blocks of a tree by what they hold: lists of nodes, and texts.
use Rattle.std.specs.Prelude.{List}
use Rattle.arena_chunks.specs.Memory.{Memory}
use Rattle.arena_store.specs.declared.block.Block.{Block}
use Rattle.tree_rules.specs.Trees.{Expr, Exprs, Stmt, Stmts}
use Rattle.tree_nodes.specs.declared.node.Node.{Node}
use Rattle.tree_nodes.specs.TreesAt.{OfLists, OfTexts, expr_named, exprs_named}
use Rattle.tree_nodes.specs.StmtsAt.{stmt_named, stmts_named}

abbrev pub expr_lists : Expr → Memory → Node → List Block
expr_lists e m n = expr_named OfLists e m n

abbrev pub expr_texts : Expr → Memory → Node → List Block
expr_texts e m n = expr_named OfTexts e m n

abbrev pub exprs_lists : Exprs → Memory → List Node → List Block
exprs_lists es m ns = exprs_named OfLists es m ns

abbrev pub exprs_texts : Exprs → Memory → List Node → List Block
exprs_texts es m ns = exprs_named OfTexts es m ns

abbrev pub stmt_lists : Stmt → Memory → Node → List Block
stmt_lists s m n = stmt_named OfLists s m n

abbrev pub stmt_texts : Stmt → Memory → Node → List Block
stmt_texts s m n = stmt_named OfTexts s m n

abbrev pub stmts_lists : Stmts → Memory → List Node → List Block
stmts_lists ss m ns = stmts_named OfLists ss m ns

abbrev pub stmts_texts : Stmts → Memory → List Node → List Block
stmts_texts ss m ns = stmts_named OfTexts ss m ns
