use Rattle.arena_chunks.proofs.Layers.{all_from_none, all_from_both, all_of_both, all_among, all_each}
use Rattle.arena_chunks.proofs.laws.blocks.all_apart.Goals as goal

pub returns : goal.returns
returns c = record { from_none = all_from_none; from_both = all_from_both; of_both = all_of_both; among = all_among; each = all_each }
