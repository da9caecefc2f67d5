use Rattle.arena_chunks.proofs.Layers.{checkpoint_own, checkpoint_placed, checkpoint_resized, checkpoint_returned, checkpoint_written}
use Rattle.arena_chunks.proofs.laws.marking.marks.Goals as goal

pub returns : goal.returns
returns c = record {
  own = checkpoint_own;
  placed = checkpoint_placed;
  resized = checkpoint_resized;
  given_back = checkpoint_returned;
  written = checkpoint_written;
}
