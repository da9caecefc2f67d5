use Rattle.arena_chunks.proofs.Layers.{placed_full, grown_full, shrunk_full}
use Rattle.arena_chunks.proofs.laws.asking.full.Goals as goal

pub returns : goal.returns
returns c = record { placed = placed_full; grown = grown_full; shrunk = shrunk_full }
