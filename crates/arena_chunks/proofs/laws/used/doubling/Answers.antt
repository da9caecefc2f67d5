use Rattle.arena_chunks.proofs.Layers.{placed_doubling, resized_doubling, returned_doubling}
use Rattle.arena_chunks.proofs.laws.used.doubling.Goals as goal

pub returns-clause-placed : goal.returns-clause-placed
returns-clause-placed c = placed_doubling

pub returns-clause-resized : goal.returns-clause-resized
returns-clause-resized c = resized_doubling

pub returns-clause-given_back : goal.returns-clause-given_back
returns-clause-given_back c = returned_doubling
