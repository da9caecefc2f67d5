use Rattle.std.proofs.Common.{None}
use Rattle.arena_pool.specs.declared.kind.PoolKind.TheVariants.{FixedSize}
use Rattle.example_collections.proofs.threads.over_fixed.Given as goal

abbrev pub ghosts-in_fixed-L-Ledger : goal.ghosts-in_fixed-L-Ledger
ghosts-in_fixed-L-Ledger g a = record { name = a.blank.name; parts = a.blank.parts }

abbrev pub ghosts-in_fixed-L-PoolName : goal.ghosts-in_fixed-L-PoolName
ghosts-in_fixed-L-PoolName g a = record { kind = FixedSize a.bytes; limit = None }
