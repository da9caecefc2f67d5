use Rattle.thread_tests.proofs.tests.workers.crowds.ten_thousand_scripts.Given as goal

abbrev pub ghosts-crowds-L-Ledger : goal.ghosts-crowds-L-Ledger
ghosts-crowds-L-Ledger g a = record { name = a.blank.name; parts = a.blank.parts }

abbrev pub ghosts-crowds-L-PoolName : goal.ghosts-crowds-L-PoolName
ghosts-crowds-L-PoolName g a = record { kind = a.plan.0; limit = a.plan.1 }
