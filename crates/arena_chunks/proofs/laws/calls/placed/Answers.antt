use Rattle.arena_chunks.proofs.Layers.{placed_apart, placed_pairwise}
use Rattle.arena_chunks.proofs.laws.calls.placed.Goals as goal

pub returns-clause-apart : goal.returns-clause-apart
returns-clause-apart c = placed_apart

pub returns-clause-pairwise : goal.returns-clause-pairwise
returns-clause-pairwise c = placed_pairwise
