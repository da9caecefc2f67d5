use Rattle.arena_chunks.proofs.Layers.{placed_starved, placed_starved_any, grown_starved, shrunk_starved}
use Rattle.arena_chunks.proofs.laws.asking.starved.Goals as goal

pub returns : goal.returns
returns c = record { placed = placed_starved; any_size = placed_starved_any; grown = grown_starved; shrunk = shrunk_starved }
