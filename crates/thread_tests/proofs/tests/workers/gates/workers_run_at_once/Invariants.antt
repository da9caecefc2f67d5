use Rattle.thread_tests.proofs.tests.workers.gates.workers_run_at_once.Given as goal

abbrev pub ghosts-run_at_once-L-Ledger : goal.ghosts-run_at_once-L-Ledger
ghosts-run_at_once-L-Ledger g a = record { name = a.blank.name; parts = a.blank.parts }

abbrev pub ghosts-run_at_once-L-PoolName : goal.ghosts-run_at_once-L-PoolName
ghosts-run_at_once-L-PoolName g a = record { kind = a.plan.0; limit = a.plan.1 }
