use Rattle.arena_pool.proofs.PoolLemmas.{put_is_pool}
use Rattle.arena_pool.proofs.laws.events.Goals as goal

pub returns-clause-put : goal.returns-clause-put
returns-clause-put c = put_is_pool
