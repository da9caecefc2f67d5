use Rattle.arena_program.specs.PoolEnds.{kind_of, limit_of}
use Rattle.arena_program.proofs.pools.run_task.Given as goal

abbrev pub ghosts-in_pool-L-Ledger : goal.ghosts-in_pool-L-Ledger
ghosts-in_pool-L-Ledger g a = record { name = a.blank.name; parts = a.blank.parts }

abbrev pub ghosts-in_pool-L-PoolName : goal.ghosts-in_pool-L-PoolName
ghosts-in_pool-L-PoolName g a = record { kind = kind_of a.task.lender; limit = limit_of a.task.lender }
