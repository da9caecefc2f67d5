use Rattle.arena_pool.proofs.OwnerLemmas.{once, two_share}
use Rattle.arena_pool.proofs.laws.freed_once.Goals as goal

pub returns : goal.returns
returns g c = λ a s holds pair. once a s (two_share a s holds pair)
