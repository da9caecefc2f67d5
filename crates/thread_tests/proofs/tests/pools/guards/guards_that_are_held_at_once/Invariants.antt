use Rattle.thread_tests.proofs.tests.pools.guards.guards_that_are_held_at_once.Given as goal

abbrev pub ghosts-guards_of_three-L-Ledger : goal.ghosts-guards_of_three-L-Ledger
ghosts-guards_of_three-L-Ledger g a = record { name = a.blank.name; parts = a.blank.parts }

abbrev pub ghosts-guards_of_three-L-PoolName : goal.ghosts-guards_of_three-L-PoolName
ghosts-guards_of_three-L-PoolName g a = record { kind = a.plan.0; limit = a.plan.1 }
