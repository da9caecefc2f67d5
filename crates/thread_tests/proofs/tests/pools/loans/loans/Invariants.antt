use Rattle.std.proofs.Common.{None}
use Rattle.arena_pool.specs.declared.kind.PoolKind.TheVariants.{Standard, FixedSize}
use Rattle.thread_tests.proofs.tests.pools.loans.loans.Given as goal

abbrev pub ghosts-loans_of-L-Ledger : goal.ghosts-loans_of-L-Ledger
ghosts-loans_of-L-Ledger g a = record { name = a.blank.name; parts = a.blank.parts }

abbrev pub ghosts-loans_of-L-PoolName : goal.ghosts-loans_of-L-PoolName
ghosts-loans_of-L-PoolName g a = record { kind = FixedSize a.bytes; limit = None }

abbrev pub ghosts-loans_without_end-L-Ledger : goal.ghosts-loans_without_end-L-Ledger
ghosts-loans_without_end-L-Ledger g a = record { name = a.blank.name; parts = a.blank.parts }

abbrev pub ghosts-loans_without_end-L-PoolName : goal.ghosts-loans_without_end-L-PoolName
ghosts-loans_without_end-L-PoolName g a = record { kind = Standard; limit = None }
