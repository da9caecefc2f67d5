use Rattle.thread_tests.proofs.tests.pools.threads.crowds.Given as goal

abbrev pub ghosts-crowd-L-Ledger : goal.ghosts-crowd-L-Ledger
ghosts-crowd-L-Ledger g a = record { name = a.blank.name; parts = a.blank.parts }

abbrev pub ghosts-crowd-L-PoolName : goal.ghosts-crowd-L-PoolName
ghosts-crowd-L-PoolName g a = record { kind = a.plan.0; limit = a.plan.1 }
