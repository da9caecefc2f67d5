use Rattle.std.proofs.Common.{rules}
use Rattle.arena_pool.proofs.ClaimLemmas.{splits}
use Rattle.arena_pool.proofs.claims.Claims.split.Goals as goal

pub split_seat-requires : goal.split_seat-requires
split_seat-requires c = (search rules, search rules, splits _ _ _)
