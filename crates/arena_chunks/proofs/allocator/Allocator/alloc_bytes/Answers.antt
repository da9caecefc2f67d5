use Rattle.arena_core.proofs.BlockCallLemmas.{wrote_first}
use Rattle.arena_chunks.proofs.allocator.Allocator.alloc_bytes.Goals as goal

pub returns-clause-bytes : goal.returns-clause-bytes
returns-clause-bytes g c = wrote_first _ _ c.in_ok-block.block c.args.bytes.now c.write.ensures.writes
