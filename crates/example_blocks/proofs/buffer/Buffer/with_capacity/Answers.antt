use Rattle.example_blocks.proofs.BufferLemmas.{empty_buffer}
use Rattle.example_blocks.proofs.buffer.Buffer.with_capacity.Goals as goal

pub returns-in-Ok-clause-empty : goal.returns-in-Ok-clause-empty
returns-in-Ok-clause-empty g c = empty_buffer _ _ c.in-Some.layout.size c.in-Some.layout.align c.in-Ok.block c.in-Ok.ensures
