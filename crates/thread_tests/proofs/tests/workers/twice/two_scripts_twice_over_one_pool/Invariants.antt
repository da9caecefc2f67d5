use Rattle.thread_tests.proofs.tests.workers.twice.two_scripts_twice_over_one_pool.Given as goal

abbrev pub ghosts-run_twice-L-Ledger : goal.ghosts-run_twice-L-Ledger
ghosts-run_twice-L-Ledger g a = record { name = a.blank.name; parts = a.blank.parts }

abbrev pub ghosts-run_twice-L-PoolName : goal.ghosts-run_twice-L-PoolName
ghosts-run_twice-L-PoolName g a = record { kind = a.plan.0; limit = a.plan.1 }
