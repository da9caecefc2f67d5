use Rattle.thread_tests.proofs.tests.pools.threads.a_borrower_waits_until_another_gives_back.Given as goal

abbrev pub ghosts-one_waits-L-Ledger : goal.ghosts-one_waits-L-Ledger
ghosts-one_waits-L-Ledger g a = record { name = a.blank.name; parts = a.blank.parts }

abbrev pub ghosts-one_waits-L-PoolName : goal.ghosts-one_waits-L-PoolName
ghosts-one_waits-L-PoolName g a = record { kind = a.plan.0; limit = a.plan.1 }
