use Rattle.std.proofs.lemmas.Bool.Decides.{nat_tests}
use Rattle.std.proofs.Common.{arith}
use Rattle.tree_nodes.proofs.BlockCostLemmas.{block_placed, block_refused, block_exhausted}
use Rattle.tree_nodes.proofs.AskLemmas.{placed_asks, refused_asks, exhausted_asks}
use Rattle.tree_nodes.proofs.block.place_block.Goals as goal

pub returns-in-Ok-clause-spends : goal.returns-in-Ok-clause-spends
returns-in-Ok-clause-spends g c =
    block_placed _ _ _ _ c.known.ensures.state c.args.layout.valid c.requires.aligned c.requires.small c.in-Ok.block c.in-Ok.ensures

pub returns-in-Err-AllocErr-clause-spends : goal.returns-in-Err-AllocErr-clause-spends
returns-in-Err-AllocErr-clause-spends g c =
    block_refused _ _ _ _ c.known.ensures.state c.args.layout.valid c.requires.aligned c.requires.small c.in-Err-AllocErr.refused
    (rw c.in-Err-AllocErr.field-0-is at c.in-Err-AllocErr.ensures)

pub returns-in-Err-OutOfMemory-clause-spends : goal.returns-in-Err-OutOfMemory-clause-spends
returns-in-Err-OutOfMemory-clause-spends g c = grind (arith, nat_tests, block_exhausted)

pub returns-in-Ok-clause-asks : goal.returns-in-Ok-clause-asks
returns-in-Ok-clause-asks g c = placed_asks c.in-Ok.block c.in-Ok.ensures

pub returns-in-Err-AllocErr-clause-asks : goal.returns-in-Err-AllocErr-clause-asks
returns-in-Err-AllocErr-clause-asks g c = refused_asks c.in-Err-AllocErr.refused (rw c.in-Err-AllocErr.field-0-is at c.in-Err-AllocErr.ensures)

pub returns-in-Err-OutOfMemory-clause-asks : goal.returns-in-Err-OutOfMemory-clause-asks
returns-in-Err-OutOfMemory-clause-asks g c = grind (arith, nat_tests, exhausted_asks)
