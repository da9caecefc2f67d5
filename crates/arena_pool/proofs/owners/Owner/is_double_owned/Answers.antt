use Rattle.std.proofs.Common.{rules}
use Rattle.arena_pool.proofs.OwnerLemmas.{looks}
use Rattle.arena_pool.proofs.owners.Owner.is_double_owned.Goals as goal

pub load-requires : goal.load-requires
load-requires g c = (search rules, search rules, looks _ _ _ _ c.self.invariant.3 c.self.invariant.4)
