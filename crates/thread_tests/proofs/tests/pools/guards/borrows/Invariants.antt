use Rattle.thread_tests.proofs.tests.pools.guards.borrows.Given as goal

abbrev pub ghosts-borrows_of-L-Ledger : goal.ghosts-borrows_of-L-Ledger
ghosts-borrows_of-L-Ledger g a = record { name = a.blank.name; parts = a.blank.parts }

abbrev pub ghosts-borrows_of-L-PoolName : goal.ghosts-borrows_of-L-PoolName
ghosts-borrows_of-L-PoolName g a = record { kind = a.plan.0; limit = a.plan.1 }
