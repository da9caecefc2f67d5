use Rattle.std.proofs.Common.{None}
use Rattle.arena_pool.specs.declared.kind.PoolKind.TheVariants.{Standard}
use Rattle.example_collections.proofs.threads.over_standard.Given as goal

abbrev pub ghosts-in_standard-L-Ledger : goal.ghosts-in_standard-L-Ledger
ghosts-in_standard-L-Ledger g a = record { name = a.blank.name; parts = a.blank.parts }

abbrev pub ghosts-in_standard-L-PoolName : goal.ghosts-in_standard-L-PoolName
ghosts-in_standard-L-PoolName g a = record { kind = Standard; limit = None }
