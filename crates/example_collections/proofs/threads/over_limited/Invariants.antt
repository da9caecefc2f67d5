use Rattle.std.proofs.Common.{Some}
use Rattle.arena_pool.specs.declared.kind.PoolKind.TheVariants.{Standard}
use Rattle.example_collections.proofs.threads.over_limited.Given as goal

abbrev pub ghosts-in_limited-L-Ledger : goal.ghosts-in_limited-L-Ledger
ghosts-in_limited-L-Ledger g a = record { name = a.blank.name; parts = a.blank.parts }

abbrev pub ghosts-in_limited-L-PoolName : goal.ghosts-in_limited-L-PoolName
ghosts-in_limited-L-PoolName g a = record { kind = Standard; limit = Some a.limit }
