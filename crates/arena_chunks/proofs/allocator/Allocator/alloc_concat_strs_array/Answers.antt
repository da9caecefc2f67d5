use Rattle.arena_core.proofs.BlockCallLemmas.{wrote_first}
use Rattle.arena_chunks.proofs.allocator.Allocator.alloc_concat_strs_array.Goals as goal

pub returns-clause-text : goal.returns-clause-text
returns-clause-text g c = wrote_first _ _ c.in_ok-block.block _ c.write_strings.ensures.writes
