use Rattle.std.proofs.lemmas.Bool.Decides.{nat_tests}
use Rattle.std.proofs.Common.{arith}
use Rattle.arena_chunks.proofs.Layers.{length-bytes, readable_size}
use Rattle.tree_nodes.proofs.name.clone_text.Goals as goal

pub place_text-requires : goal.place_text-requires
place_text-requires g c = grind (arith, nat_tests, length-bytes, readable_size)
