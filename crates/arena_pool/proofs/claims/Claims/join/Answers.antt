use Rattle.std.proofs.Common.{rules}
use Rattle.arena_pool.proofs.ClaimLemmas.{joins}
use Rattle.arena_pool.proofs.claims.Claims.join.Goals as goal

pub join_seat-requires : goal.join_seat-requires
join_seat-requires c = (search rules, search rules, search rules, search rules, joins _ _ _ _ _)
