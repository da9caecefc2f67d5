use Rattle.std.proofs.lemmas.Bool.Decides.{nat_tests}
use Rattle.std.proofs.Common.{arith}
use Rattle.arena_tree.specs.Cloning.{clone_bytes}
use Rattle.arena_tree.specs.Subtrees.{stmt_row}
use Rattle.arena_tree.proofs.CloneCostLemmas.{spends_tree}
use Rattle.arena_tree.proofs.FoldTreeLemmas.{given_row}
use Rattle.arena_tree.proofs.GivenLemmas.{built_given}
use Rattle.arena_tree.proofs.ParseLemmas.{spends_takes, short}
use Rattle.tree_nodes.proofs.RowLemmas.{stmts_built}
use Rattle.tree_nodes.proofs.SubtreeLemmas.{stmt_row_at}
use Rattle.arena_tree.proofs.CloneAskLemmas.{tree_ran, tree_ends}
use Rattle.arena_tree.proofs.tree.Tree.clone_in.Goals as goal

pub clone_row-requires : goal.clone_row-requires
clone_row-requires g c = grind (arith, nat_tests, given_row)

pub returns-in-Ok-clause-clones : goal.returns-in-Ok-clause-clones
returns-in-Ok-clause-clones g c = λ trees means.
    stmts_built trees _ _ _ (c.in-Ok.ensures.trees (stmt_row trees) (stmt_row_at trees _ _ means))

pub returns-in-Ok-clause-tree : goal.returns-in-Ok-clause-tree
returns-in-Ok-clause-tree g c =
    built_given c.requires.trees c.args.to.now.memory c.clone_row.new.to.memory (record { stmts = c.in-Ok.stmts }) c.requires.plain
    (returns-in-Ok-clause-clones g c c.requires.trees c.requires.means)

pub returns-in-Ok-clause-bytes : goal.returns-in-Ok-clause-bytes
returns-in-Ok-clause-bytes g c = λ trees means.
    spends_takes _ (spends_tree trees (c.in-Ok.ensures.spends (stmt_row trees) (stmt_row_at trees _ _ means))) (omega arith)

pub returns-in-Err-AllocErr-clause-clones : goal.returns-in-Err-AllocErr-clause-clones
returns-in-Err-AllocErr-clause-clones g c = λ trees means.
    short (clone_bytes trees) c.in-Err-AllocErr.refused (spends_tree trees
    ((rw c.in-Err-AllocErr.field-0-is at c.in-Err-AllocErr.ensures.spends) (stmt_row trees) (stmt_row_at trees _ _ means))) (omega arith)

pub returns-in-Err-AllocErr-clause-bytes : goal.returns-in-Err-AllocErr-clause-bytes
returns-in-Err-AllocErr-clause-bytes g c = λ trees means.
    spends_takes (clone_bytes trees) (spends_tree trees
    ((rw c.in-Err-AllocErr.field-0-is at c.in-Err-AllocErr.ensures.spends) (stmt_row trees) (stmt_row_at trees _ _ means))) (omega arith)

pub returns-in-Err-OutOfMemory-clause-clones : goal.returns-in-Err-OutOfMemory-clause-clones
returns-in-Err-OutOfMemory-clause-clones g c = grind (arith, nat_tests, stmt_row_at)

pub returns-in-Err-OutOfMemory-clause-bytes : goal.returns-in-Err-OutOfMemory-clause-bytes
returns-in-Err-OutOfMemory-clause-bytes g c = λ trees means.
    spends_takes (clone_bytes trees) (spends_tree trees
    ((rw c.in-Err-OutOfMemory.field-0-is at c.in-Err-OutOfMemory.ensures.spends) (stmt_row trees) (stmt_row_at trees _ _ means)))
    (omega arith)

pub unreachable-requires : goal.unreachable-requires
unreachable-requires g c = grind (arith, nat_tests, stmt_row_at)

pub returns-in-Ok-clause-lean : goal.returns-in-Ok-clause-lean
returns-in-Ok-clause-lean g c = (returns-in-Ok-clause-clones g c c.requires.trees c.requires.means).lean

pub returns-in-Ok-clause-asks : goal.returns-in-Ok-clause-asks
returns-in-Ok-clause-asks g c = λ trees means.
    tree_ran trees (c.in-Ok.ensures.asks (stmt_row trees) (stmt_row_at trees _ _ means))

pub returns-in-Err-AllocErr-clause-asks : goal.returns-in-Err-AllocErr-clause-asks
returns-in-Err-AllocErr-clause-asks g c = λ trees means.
    tree_ends trees ((rw c.in-Err-AllocErr.field-0-is at c.in-Err-AllocErr.ensures.asks) (stmt_row trees) (stmt_row_at trees _ _ means))

pub returns-in-Err-OutOfMemory-clause-asks : goal.returns-in-Err-OutOfMemory-clause-asks
returns-in-Err-OutOfMemory-clause-asks g c = λ trees means.
    tree_ends trees ((rw c.in-Err-OutOfMemory.field-0-is at c.in-Err-OutOfMemory.ensures.asks) (stmt_row trees) (stmt_row_at trees _ _ means))
