use Rattle.arena_chunks.proofs.Layers.{placed_least, placed_most, placed_exact}
use Rattle.arena_chunks.proofs.laws.used.used_by_placing.Goals as goal

pub returns : goal.returns
returns c = record { least = placed_least; most = placed_most; exact = placed_exact }
